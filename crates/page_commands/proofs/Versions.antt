-- How `versions` ends, computed, and that it does.
use Rattle.std.proofs.Common.{◌≡◌, ◌∙◌, ◌↔◌, ◌⊎◌, ◌&&◌, ◌||◌, ℕ, Bool, true, false, List, [], ◌∷◌, codes, Option, Some, None, Result, Ok, Err, Contains, ap, inl, inr, lit<, map, nat_eq, not, refl, subst, sym}
use Rattle.std.specs.Prelude.{if◌then◌else◌, filter}
use Rattle.std.specs.Cmp.Lexicographic.{pointwise}
use Rattle.std.specs.List.Sorted.{IsStrictlySortedBy}
use Rattle.std.specs.Ordering.{is_gt}
use Rattle.std.proofs.lemmas.Bool.{and_parts, false≢true, not-true, or_cases}
use Rattle.std.proofs.lemmas.Option.{same_Some}
use Rattle.page_commands.specs.Asked.{Name, Reply, absent, answer_in, bytes, list_file, mod_file, too_long}
use Rattle.page_commands.specs.Directives.{Lax}
use Rattle.page_commands.specs.Document.{Line}
use Rattle.page_commands.specs.Faults.{Fault, fault_of}
use Rattle.page_commands.specs.Fields.{dependency_of, lax_retracts_of}
use Rattle.page_commands.specs.Files.{IsParsedAs, lines_in}
use Rattle.page_commands.specs.GmNameLines.{first_word, lines}
use Rattle.page_commands.specs.Latest.{IsGreatest, IsLatest, NoneConsidered, counts, is_release}
use Rattle.page_commands.specs.Listed.{AreListed, IsListed}
use Rattle.page_commands.specs.Outcome.{Outcome, refusal_outcome, text_outcome}
use Rattle.page_commands.specs.Path.{is_fetchable}
use Rattle.page_commands.specs.Reading.{IsFileReading}
use Rattle.page_commands.specs.Reports.{fault_line}
use Rattle.page_commands.specs.Shown.{shown_of}
use Rattle.page_commands.specs.Types.Class.{Class, Malformed, Missing, TooLong}
use Rattle.page_commands.specs.Types.Misreading as misreading
use Rattle.page_commands.specs.Types.SyntaxFault.{NoMemory, NotUtf8, Syntax, SyntaxFault, TooMany}
use Rattle.page_commands.specs.Version.{version_cmp}
use Rattle.page_commands.specs.Versions.{HasListed, IsLatestListed, VersionsEnds, VersionsNeed, all_listed, bad_file, device, list_refusal, no_list, not_retracted, printed, versions_line}
use Rattle.page_commands.specs.Words.{Word}
use Rattle.page_commands.specs.Worlds.Versions.{DeviceIsReported, HasNone, Holds, LatestFilesAreRead, ListsAreRead, RetractedAreLeftOut, World, file_worlds, list_worlds, listing, m, shown_worlds}
use Rattle.page_commands.proofs.Listable.{is_listable, is_spelled, listable_back, listable_so}
use Rattle.page_commands.proofs.Members.{ascends, below_all, every, every_one, some, some_one, sorted, text_same}
use Rattle.page_commands.proofs.OnLiterals.{on_literals}
use Rattle.page_commands.proofs.Rows.{all_so, placed, plain_placed}

-- ---- the list

abbrev has_text : List (List ℕ) → List ℕ → Bool
has_text texts text = some (λ (other : List ℕ). pointwise nat_eq other text) texts

text_there : (texts : List (List ℕ)) (text : List ℕ) → has_text texts text ≡ true → Contains texts text
text_there texts text h = let found = some_one (λ (other : List ℕ). pointwise nat_eq other text) texts h in
    subst (Contains texts) (text_same found.0 text found.2) found.1

abbrev words : List ℕ → List (List ℕ)
words list = map first_word (lines list)

abbrev listed : List ℕ → List (List ℕ)
listed list = sorted version_cmp (filter is_listable (words list))

abbrev is_right : List ℕ → List ℕ → Bool
is_right list version = has_text (words list) version && (is_listable version && is_spelled version)

abbrev is_considered : List (List ℕ) → List ℕ → Bool
is_considered versions word = not (is_listable word) || has_text versions word

abbrev is_list : List ℕ → List (List ℕ) → Bool
is_list list versions = ascends version_cmp versions && (every (is_right list) versions && every (is_considered versions) (words list))

strictly : (versions : List (List ℕ)) → ascends version_cmp versions ≡ true → IsStrictlySortedBy version_cmp versions
unfolding IsStrictlySortedBy
strictly [] h = tt
strictly (v ∷ vs) h = let p = and_parts _ (ascends version_cmp vs) h in (below_all version_cmp v vs p.0, strictly vs p.1)

list_so : (list : List ℕ) (versions : List (List ℕ)) → is_list list versions ≡ true → AreListed m list versions
list_so list versions h = record { ascending = strictly versions p.0; members = λ version. search (listed_so version, there_so version) }
  where
    p : (ascends version_cmp versions ≡ true) × ((every (is_right list) versions && every (is_considered versions) (words list)) ≡ true)
    p = and_parts (ascends version_cmp versions) (every (is_right list) versions && every (is_considered versions) (words list)) h

    q : (every (is_right list) versions ≡ true) × (every (is_considered versions) (words list) ≡ true)
    q = and_parts (every (is_right list) versions) (every (is_considered versions) (words list)) p.1

    listed_so : (version : List ℕ) → Contains versions version → IsListed m list version
    listed_so version there =
        let r = and_parts (has_text (words list) version) (is_listable version && is_spelled version) (every_one (is_right list) versions q.0 version there) in
        let s = and_parts (is_listable version) (is_spelled version) r.1 in
        record { named = text_there (words list) version r.0; listable = listable_so version s.0 s.1 }

    there_so : (version : List ℕ) → IsListed m list version → Contains versions version
    there_so version is = elim (or_cases (not (is_listable version)) (has_text versions version)
        (every_one (is_considered versions) (words list) q.1 version is.named)) [
          | inl never ↦ absurd (false≢true (sym (not-true (is_listable version) never) ∙ listable_back version is.listable))
          | inr has ↦ text_there versions version has
        ]

-- both ways, in either order
members_are : (list : List ℕ) (versions : List (List ℕ)) → AreListed m list versions → (version : List ℕ)
    → Contains versions version ↔ IsListed m list version
members_are list versions are version = search (are.members version)

-- ---- the latest version

abbrev last_text : List (List ℕ) → Option (List ℕ)
last_text [] = None
last_text (v ∷ []) = Some v
last_text (v ∷ w ∷ vs) = last_text (w ∷ vs)

abbrev first_some : Option (List ℕ) → Option (List ℕ) → Option (List ℕ)
first_some None other = other
first_some (Some v) other = Some v

abbrev latest_in : List (List ℕ) → Option (List ℕ)
latest_in versions = first_some (last_text (filter is_release versions)) (last_text versions)

abbrev is_no_greater : Bool → List ℕ → List ℕ → Bool
is_no_greater releases_only version other = not (counts releases_only other) || not (is_gt (version_cmp other version))

abbrev is_greatest : Bool → List (List ℕ) → List ℕ → Bool
is_greatest releases_only versions version =
    has_text versions version && (counts releases_only version && every (is_no_greater releases_only version) versions)

greatest_so : (releases_only : Bool) (versions : List (List ℕ)) (version : List ℕ) → is_greatest releases_only versions version ≡ true
    → IsGreatest releases_only versions version
greatest_so releases_only versions version h =
    let p = and_parts (has_text versions version) (counts releases_only version && every (is_no_greater releases_only version) versions) h in
    let q = and_parts (counts releases_only version) (every (is_no_greater releases_only version) versions) p.1 in record {
      listed = text_there versions version p.0;
      counted = q.0;
      greatest = λ other there counted.
          elim (or_cases (not (counts releases_only other)) (not (is_gt (version_cmp other version)))
          (every_one (is_no_greater releases_only version) versions q.1 other there)) [
            | inl never ↦ absurd (false≢true (sym (not-true (counts releases_only other) never) ∙ counted))
            | inr is ↦ not-true (is_gt (version_cmp other version)) is
          ];
    }

abbrev has_none : List (List ℕ) → Bool
has_none versions = every (λ (other : List ℕ). not (counts true other)) versions

abbrev is_latest : List (List ℕ) → List ℕ → Bool
is_latest versions version = is_greatest true versions version || (has_none versions && is_greatest false versions version)

ruleset either = (inl, inr)

latest_so : (versions : List (List ℕ)) (version : List ℕ) → is_latest versions version ≡ true → IsLatest versions version
latest_so versions version h = elim (or_cases (is_greatest true versions version) (has_none versions && is_greatest false versions version) h) [
  | inl release ↦ search (either, greatest_so true versions version release)
  | inr any ↦ (let p = and_parts (has_none versions) (is_greatest false versions version) any in
      let none : NoneConsidered true versions = λ other there. not-true (counts true other) (every_one (λ (other : List ℕ). not (counts true other)) versions p.0 other there) in
      search (either, none, greatest_so false versions version p.1))
]

-- the greatest release, or there is none: the cases in either order
latest_is : (versions : List (List ℕ)) (version : List ℕ) → IsLatest versions version
    → IsGreatest true versions version ⊎ (NoneConsidered true versions × IsGreatest false versions version)
latest_is versions version is = elim is [
  | inl one ↦ search either
  | inr other ↦ search either
]

-- ---- how it ends

abbrev fault_ending : List (List ℕ) → List ℕ → List (Line Word) → Option Fault → Option Outcome
fault_ending versions latest said None = Some (text_outcome (versions_line m (shown_of (lax_retracts_of said) versions)))
fault_ending versions latest said (Some fault) =
    Some (refusal_outcome (fault_line (m, latest) (Malformed fault.0 (misreading.Directive fault.1))))

abbrev lines_ending : List (List ℕ) → List ℕ → Result (List (Line Word)) SyntaxFault → Option Outcome
lines_ending versions latest (Ok said) = fault_ending versions latest said (fault_of Lax said)
lines_ending versions latest (Err NoMemory) = None
lines_ending versions latest (Err TooMany) = None
lines_ending versions latest (Err NotUtf8) = Some (refusal_outcome (fault_line (m, latest) (Malformed 0 misreading.NotUtf8)))
lines_ending versions latest (Err (Syntax number kind)) =
    Some (refusal_outcome (fault_line (m, latest) (Malformed number (misreading.Syntax kind))))

abbrev reply_ending : List (List ℕ) → List ℕ → Option Reply → Option Outcome
reply_ending versions latest None = None
reply_ending versions latest (Some absent) = Some (refusal_outcome (fault_line (m, latest) Missing))
reply_ending versions latest (Some too_long) = Some (refusal_outcome (fault_line (m, latest) TooLong))
reply_ending versions latest (Some (bytes content)) = lines_ending versions latest (lines_in content)

abbrev latest_ending : List (Name × Reply) → List (List ℕ) → Option (List ℕ) → Option Outcome
latest_ending answers versions None = None
latest_ending answers versions (Some latest) =
    if is_latest versions latest then reply_ending versions latest (answer_in answers (mod_file m latest)) else None

abbrev versions_ending : Bool → List (Name × Reply) → List (List ℕ) → Option Outcome
versions_ending true answers versions = Some (text_outcome (versions_line m versions))
versions_ending false answers [] = Some (text_outcome (versions_line m []))
versions_ending false answers (v ∷ vs) = latest_ending answers (v ∷ vs) (latest_in (v ∷ vs))

abbrev list_ending : Bool → List (Name × Reply) → Option Reply → Option Outcome
list_ending all answers None = None
list_ending all answers (Some absent) = list_refusal m true (Some absent)
list_ending all answers (Some too_long) = list_refusal m true (Some too_long)
list_ending all answers (Some (bytes list)) = if is_list list (listed list) then versions_ending all answers (listed list) else None

abbrev IsTold : World → Type 0
IsTold w = list_ending w.all w.answers (answer_in w.answers (list_file m)) ≡ Some w.ends

module _ (answers : List (Name × Reply)) (outcome : Outcome) where
  fetchable : is_fetchable m ≡ true
  unfolding is_fetchable
  fetchable = refl

  abbrev Ends : Bool → Type 0
  Ends all = VersionsEnds m all (answer_in answers) [] outcome

  abbrev Has : List (List ℕ) → Type 0
  Has = HasListed m (answer_in answers)

  module _ (versions : List (List ℕ)) (latest : List ℕ) (chosen : IsLatestListed m false (answer_in answers) versions latest) where
    abbrev IsAnswer : Reply → Type 0
    IsAnswer reply = answer_in answers (mod_file m latest) ≡ Some reply

    reports_class : (reply : Reply) (class : Class) → IsAnswer reply → IsFileReading None (mod_file m latest) reply (Err class)
        → refusal_outcome (fault_line (m, latest) class) ≡ outcome → Ends false
    reports_class reply class at says is = bad_file versions latest reply class (record { chosen = chosen; answered = at; says = says }) refl (sym is)

    by_fault : (content : List ℕ) (said : List (Line Word)) (fault : Option Fault) → IsAnswer (bytes content) → lines_in content ≡ Ok said
        → fault_of Lax said ≡ fault → fault_ending versions latest said fault ≡ Some outcome → Ends false
    by_fault content said None at e none f = printed (shown_of (lax_retracts_of said) versions)
        (not_retracted versions latest (bytes content) (dependency_of said) (lax_retracts_of said)
        (record { chosen = chosen; answered = at; says = (placed said, parsed, ap (fault_of Lax) (plain_placed said) ∙ none, ap dependency_of (plain_placed said)) })
        (placed said, parsed, ap lax_retracts_of (plain_placed said)) refl) refl (sym (same_Some _ _ f))
      where
        parsed : IsParsedAs content (Ok (placed said))
        parsed = e ∙ ap (λ (ls : List (Line Word)). Ok ls) (sym (plain_placed said))
    by_fault content said (Some fault) at e is f = reports_class (bytes content) (Malformed fault.0 (misreading.Directive fault.1)) at
        (placed said, e ∙ ap (λ (ls : List (Line Word)). Ok ls) (sym (plain_placed said)), ap (fault_of Lax) (plain_placed said) ∙ is) (same_Some _ _ f)

    by_lines : (content : List ℕ) (r : Result (List (Line Word)) SyntaxFault) → IsAnswer (bytes content) → lines_in content ≡ r
        → lines_ending versions latest r ≡ Some outcome → Ends false
    by_lines content (Ok said) at e f = by_fault content said (fault_of Lax said) at e refl f
    by_lines content (Err NoMemory) at e f = absurd (cc f)
    by_lines content (Err TooMany) at e f = absurd (cc f)
    by_lines content (Err NotUtf8) at e f = reports_class (bytes content) (Malformed 0 misreading.NotUtf8) at (refl, e) (same_Some _ _ f)
    by_lines content (Err (Syntax number kind)) at e f =
        reports_class (bytes content) (Malformed number (misreading.Syntax kind)) at e (same_Some _ _ f)

    by_reply : (reply : Option Reply) → answer_in answers (mod_file m latest) ≡ reply → reply_ending versions latest reply ≡ Some outcome → Ends false
    by_reply None at f = absurd (cc f)
    by_reply (Some absent) at f = reports_class absent Missing at refl (same_Some _ _ f)
    by_reply (Some too_long) at f = reports_class too_long TooLong at refl (same_Some _ _ f)
    by_reply (Some (bytes content)) at f = by_lines content (lines_in content) at refl f

  by_test : (versions : List (List ℕ)) (latest : List ℕ) (b : Bool) → Has versions → is_latest versions latest ≡ b
      → (if b then reply_ending versions latest (answer_in answers (mod_file m latest)) else None) ≡ Some outcome → Ends false
  by_test versions latest true has is f =
      by_reply versions latest (record { filtered = refl; listed = has; greatest = latest_so versions latest is }) _ refl f
  by_test versions latest false has is f = absurd (cc f)

  by_latest : (versions : List (List ℕ)) (r : Option (List ℕ)) → Has versions → latest_ending answers versions r ≡ Some outcome → Ends false
  by_latest versions None has f = absurd (cc f)
  by_latest versions (Some latest) has f = by_test versions latest (is_latest versions latest) has refl f

  by_versions : (all : Bool) (versions : List (List ℕ)) → Has versions → versions_ending all answers versions ≡ Some outcome → Ends all
  by_versions true versions has f = printed versions (all_listed has (inl refl)) refl (sym (same_Some _ _ f))
  by_versions false [] has f = printed [] (all_listed has (inr refl)) refl (sym (same_Some _ _ f))
  by_versions false (v ∷ vs) has f = by_latest (v ∷ vs) (latest_in (v ∷ vs)) has f

  by_list : (all : Bool) (list : List ℕ) (b : Bool) → answer_in answers (list_file m) ≡ Some (bytes list) → is_list list (listed list) ≡ b
      → (if b then versions_ending all answers (listed list) else None) ≡ Some outcome → Ends all
  by_list all list true at is f =
      by_versions all (listed list) (record { fetchable = fetchable; list = list; answered = at; listed = list_so list (listed list) is }) f
  by_list all list false at is f = absurd (cc f)

  refused : (all : Bool) (reply : Reply) → answer_in answers (list_file m) ≡ Some reply → list_refusal m true (Some reply) ≡ Some outcome → Ends all
  refused all reply at is = no_list (rw (fetchable, at) is) refl

  by_answer : (all : Bool) (reply : Option Reply) → answer_in answers (list_file m) ≡ reply → list_ending all answers reply ≡ Some outcome → Ends all
  by_answer all None at f = absurd (cc f)
  by_answer all (Some absent) at f = refused all absent at f
  by_answer all (Some too_long) at f = refused all too_long at f
  by_answer all (Some (bytes list)) at f = by_list all list (is_list list (listed list)) at refl f

told_so : (w : World) → IsTold w → Holds w
told_so w is = by_answer w.answers w.ends w.all (answer_in w.answers (list_file m)) refl is

pub lists_are_read : ListsAreRead
unfolding on_literals
lists_are_read = all_so IsTold Holds told_so list_worlds (refl, (refl, (refl, (refl, (refl, (refl, (refl, (refl, (refl, (refl, (refl, (refl, (refl, tt)))))))))))))

pub retracted_are_left_out : RetractedAreLeftOut
unfolding on_literals
retracted_are_left_out = all_so IsTold Holds told_so shown_worlds (refl, (refl, (refl, (refl, (refl, (refl, (refl, (refl, (refl, (refl, (refl, tt)))))))))))

pub latest_files_are_read : LatestFilesAreRead
unfolding on_literals
latest_files_are_read = all_so IsTold Holds told_so file_worlds (refl, (refl, (refl, (refl, (refl, (refl, (refl, (refl, (refl, (refl, (refl, tt)))))))))))

-- ---- no outcome, and no latest version

same_one : (a b : Name) → a ∷ [] ≡ b ∷ [] → a ≡ b
same_one a b e = cc e

no_cons : (a : Name) → a ∷ [] ≡ [] → ⊥
no_cons a e = cc e

module _ (answers : List (Name × Reply)) (name : Name) (may : VersionsNeed m false (answer_in answers) name → answer_in answers name ≡ None → ⊥) where
  none_fails : HasNone answers name
  none_fails outcome (device other needs unasked failed is) =
      let same : other ≡ name = sym (same_one name other failed) in
      may (subst (VersionsNeed m false (answer_in answers)) same needs) (subst (λ (n : Name). answer_in answers n ≡ None) same unasked)
  none_fails outcome (no_list refused unfailed) = no_cons name unfailed
  none_fails outcome (bad_file versions latest reply class says unfailed is) = no_cons name unfailed
  none_fails outcome (printed shown are unfailed is) = no_cons name unfailed

some_answer : (reply : Reply) → Some reply ≡ None → ⊥
some_answer reply e = cc e

abbrev one_listed : List (Name × Reply)
one_listed = listing (codes "v1.0.0\n") ∷ []

none_answered : HasNone one_listed (list_file m)
none_answered = none_fails one_listed (list_file m) (λ needs unasked. some_answer (bytes (codes "v1.0.0\n")) unasked)

no_word : Contains (words (codes "v1.0.0\n")) (codes "v0.9.0") → ⊥
unfolding on_literals
no_word there = false≢true (every_one (λ (word : List ℕ). not (pointwise nat_eq word (codes "v0.9.0"))) (words (codes "v1.0.0\n")) refl (codes "v0.9.0") there)

same_version : (a b : List ℕ) → mod_file m a ≡ mod_file m b → a ≡ b
same_version a b e = cc e

same_list : (a b : List ℕ) → Some (bytes a) ≡ Some (bytes b) → a ≡ b
same_list a b e = cc e

latest_there : (versions : List (List ℕ)) (latest : List ℕ) → IsLatest versions latest → Contains versions latest
latest_there versions latest is = elim (latest_is versions latest is) [
  | inl release ↦ release.listed
  | inr any ↦ any.1.listed
]

-- the latest version is a word of the list
no_other : VersionsNeed m false (answer_in one_listed) (mod_file m (codes "v0.9.0")) → ⊥
no_other (inl is) = (let wrong : mod_file m (codes "v0.9.0") ≡ list_file m = is.1 in cc wrong)
no_other (inr (versions, latest, is, chosen)) =
    let has = chosen.listed in
    let there = ((members_are has.list versions has.listed latest).0 (latest_there versions latest chosen.greatest)).named in
    no_word (subst (λ (list : List ℕ). Contains (words list) (codes "v0.9.0")) (sym (same_list (codes "v1.0.0\n") has.list has.answered))
    (subst (Contains (words has.list)) (sym (same_version (codes "v0.9.0") latest is)) there))

none_refused : HasNone ((list_file m, absent) ∷ []) (list_file m)
none_refused = none_fails ((list_file m, absent) ∷ []) (list_file m) (λ needs unasked. some_answer absent unasked)

no_need : VersionsNeed m false (answer_in []) (mod_file m (codes "v1.0.0")) → answer_in [] (mod_file m (codes "v1.0.0")) ≡ None → ⊥
no_need (inl is) unasked = (let wrong : mod_file m (codes "v1.0.0") ≡ list_file m = is.1 in cc wrong)
no_need (inr (versions, latest, is, chosen)) unasked = some_answer (bytes chosen.listed.list) (sym chosen.listed.answered)

none_needed : HasNone [] (mod_file m (codes "v1.0.0"))
none_needed = none_fails [] (mod_file m (codes "v1.0.0")) no_need

not_lesser : IsLatest (codes "v1.0.0" ∷ codes "v1.1.0" ∷ []) (codes "v1.0.0") → ⊥
unfolding on_literals
not_lesser is = elim (latest_is (codes "v1.0.0" ∷ codes "v1.1.0" ∷ []) (codes "v1.0.0") is) [
  | inl release ↦ false≢true (sym (release.greatest (codes "v1.1.0") (1, lit< tt, refl) refl))
  | inr any ↦ false≢true (sym (any.0 (codes "v1.0.0") (0, lit< tt, refl)))
]

not_pre : IsLatest (codes "v1.1.0" ∷ codes "v1.2.0-rc.1" ∷ []) (codes "v1.2.0-rc.1") → ⊥
unfolding on_literals
not_pre is = elim (latest_is (codes "v1.1.0" ∷ codes "v1.2.0-rc.1" ∷ []) (codes "v1.2.0-rc.1") is) [
  | inl release ↦ false≢true release.counted
  | inr any ↦ false≢true (sym (any.0 (codes "v1.1.0") (0, lit< tt, refl)))
]

abbrev three_listed : List ℕ
three_listed = codes "v1.0.0\nv1.1.0\nv1.2.0-rc.1\n"

pub device_is_reported : DeviceIsReported
unfolding on_literals
device_is_reported = record {
  list = device (list_file m) (inl (refl, refl)) refl refl refl;
  file = device (mod_file m (codes "v1.1.0")) (inr (
    listed three_listed,
    codes "v1.1.0",
    refl,
    record {
      filtered = refl;
      listed = record { fetchable = refl; list = three_listed; answered = refl; listed = list_so three_listed (listed three_listed) refl };
      greatest = latest_so (listed three_listed) (codes "v1.1.0") refl;
    },
  )) refl refl refl;
  local = no_list refl refl;
  local_all = no_list refl refl;
  unlisted = λ versions has. false≢true has.fetchable;
  answered = none_answered;
  refused = none_refused;
  unneeded = none_needed;
  other = none_fails one_listed (mod_file m (codes "v0.9.0")) (λ needs unasked. no_other needs);
  lesser = not_lesser;
  pre = not_pre;
}
