-- Single definitions, told from others like them.
use Rattle.std.proofs.Common.{◌≡◌, ◌↔◌, ◌∙◌, ◌++◌, ◌<◌, ◌==◌, ℕ, true, false, List, [], ◌∷◌, Some, None, Ok, Contains, ap, arith, codes, inl, inr, length, length-append, lit<, map, refl, subst, sym}
use Rattle.std.specs.Prelude.{slice_index}
use Rattle.std.specs.Fmt.{decimal}
use Rattle.std.specs.List.Sorted.{IsStrictlySortedBy}
use Rattle.std.specs.List.{join_with_byte, list_all, list_any}
use Rattle.std.proofs.lemmas.Bool.{and_parts, false≢true, lt-ltb}
use Rattle.std.proofs.lemmas.List.{append_assoc}
use Rattle.page_commands.specs.Asked.{Name, Reply, absent, answer_in, bytes, list_file, mod_file}
use Rattle.page_commands.specs.Chains.{IsChain, goes_on}
use Rattle.page_commands.specs.DepLines.{IsDependencyIn}
use Rattle.page_commands.specs.Document.{Line}
use Rattle.page_commands.specs.Element.{is_element}
use Rattle.page_commands.specs.Fields.{dependency_of}
use Rattle.page_commands.specs.Files.{lines_in}
use Rattle.page_commands.specs.Fit.{FitsMajor}
use Rattle.page_commands.specs.GmNameLines.{first_word, lines}
use Rattle.page_commands.specs.LineViews.{plain_lines}
use Rattle.page_commands.specs.Listed.{IsListable, IsListed}
use Rattle.page_commands.specs.ModuleVersion.{ModuleVersion}
use Rattle.page_commands.specs.Outcome.{Outcome}
use Rattle.page_commands.specs.Path.{EndsInDotNumber, HasMajor, IsPath, IsUnderGopkg}
use Rattle.page_commands.specs.Pseudo.{IsFront}
use Rattle.page_commands.specs.Types.Major.{Dot, Major, NoSuffix, Slash}
use Rattle.page_commands.specs.Types.Step.{Of, Step}
use Rattle.page_commands.specs.Version.{IsVersion, version_cmp}
use Rattle.page_commands.specs.Versions.{AreShown, HasListed, VersionsEnds, VersionsNeed, all_listed, bad_file, device, no_list, not_retracted, printed}
use Rattle.page_commands.specs.Words.{Word}
use Rattle.page_commands.specs.Worlds.Single.{NeedsAreExact, PartsAreExact, PathsAreExact, no_edge, one_listed, second_path, second_answers}
use Rattle.page_commands.specs.Worlds.Versions.{HasNone, listing, m}
use Rattle.page_commands.proofs.Listable.{ends_otherwise, listable_so, pseudo_so, version_back, version_so}
use Rattle.page_commands.proofs.Members.{member_cases, no_member}
use Rattle.page_commands.proofs.OnLiterals.{on_literals}
use Rattle.page_commands.proofs.Texts.{first_byte, has_v}

-- ---- paths

-- texts that begin with `m` and `a`
not_below : IsUnderGopkg (codes "m") → ⊥
not_below = first_byte (codes "m") 109 refl (λ e. omega (arith, e))

one : IsPath (codes "m")
unfolding on_literals
one = record {
  elements = codes "m" ∷ [];
  some = lit< tt;
  joined = refl;
  each = refl;
  named = (NoSuffix, (not_below, ends_otherwise (codes "m") 109 refl refl));
}

no_text : (elements : List (List ℕ)) → 0 < length elements → [] ≡ join_with_byte 47 elements → list_all is_element elements ≡ true → ⊥
unfolding on_literals
no_text [] some joined each = omega (arith, some)
no_text ([] ∷ rest) some joined each = false≢true each
no_text ((x ∷ t) ∷ []) some joined each = cc joined
no_text ((x ∷ t) ∷ next ∷ rest) some joined each = cc joined

-- no element begins with a slash
no_element : (t : List ℕ) → is_element (47 ∷ t) ≡ false
unfolding on_literals
no_element t = rw (lt-ltb 0 (length (47 ∷ t)) (omega arith)) refl

slash_first : (x : ℕ) (t : List ℕ) (rest : List (List ℕ)) → 47 ≡ x → list_all is_element ((x ∷ t) ∷ rest) ≡ true → ⊥
slash_first x t rest is each =
    let from = subst (λ (y : ℕ). list_all is_element ((y ∷ t) ∷ rest) ≡ true) (sym is) each in
    false≢true (sym (no_element t) ∙ (and_parts (is_element (47 ∷ t)) (list_all is_element rest) from).0)

no_slash : (elements : List (List ℕ)) → codes "/a" ≡ join_with_byte 47 elements → list_all is_element elements ≡ true → ⊥
unfolding on_literals
no_slash [] joined each = cc joined
no_slash ([] ∷ rest) joined each = false≢true each
no_slash ((x ∷ t) ∷ []) joined each = slash_first x t [] (ap (λ (l : List ℕ). slice_index l 0) joined) each
no_slash ((x ∷ t) ∷ next ∷ rest) joined each = slash_first x t (next ∷ rest) (ap (λ (l : List ℕ). slice_index l 0) joined) each

-- a text without a `v` has no major version below gopkg.in
module _ (text : List ℕ) (n : ℕ) (none : list_any (λ b. b == 118) text ≡ false) where
  no_tail : (front tail : List ℕ) → text ≡ front ++ codes ".v" ++ tail → ⊥
  no_tail front tail is = false≢true (sym none ∙ (ap (λ (t : List ℕ). list_any (λ b. b == 118) t) is ∙ has_v 46 front tail))

  no_dot : EndsInDotNumber text n → ⊥
  no_dot (inl (front, is)) = no_tail front (decimal n) (search (is, append_assoc front (codes ".v") (decimal n)))
  no_dot (inr (some, stable, is, (front, ends))) =
      let number : stable ≡ front ++ codes ".v" ++ decimal n = search (ends, append_assoc front (codes ".v") (decimal n)) in
      no_tail front (decimal n ++ codes "-unstable")
      (is ∙ (ap (λ (t : List ℕ). t ++ codes "-unstable") number ∙ append_assoc (front ++ codes ".v") (decimal n) (codes "-unstable")))

no_name : (major : Major) → HasMajor (codes "gopkg.in/a") major → ⊥
no_name (Dot n) has = no_dot (codes "gopkg.in/a") n refl has.2
no_name (Slash n) has = has.0 (codes "a", refl)
no_name NoSuffix has = has.0 (codes "a", refl)

no_host : IsUnderGopkg (codes "gopkg.in") → ⊥
no_host (rest, is) = let wrong : 0 ≡ 47 = ap (λ (t : List ℕ). slice_index t 8) is in omega (arith, wrong)

no_release : FitsMajor (Dot 1) (codes "v0.0.0") → ⊥
unfolding on_literals
no_release (inl is, build) = (let wrong : 0 ≡ 1 = is in omega (arith, wrong))
no_release (inr (is, rest, starts), build) = (let wrong : 0 ≡ 45 = ap (λ (t : List ℕ). slice_index t 6) starts in omega (arith, wrong))

no_second : IsFront 2 0 0 [] → ⊥
no_second (inl (form, low, none, is)) = omega (arith, form)
no_second (inr (inl (form, before, some, is))) = (let size : 0 ≡ length (before ++ codes ".0.") = ap (λ (t : List ℕ). length t) is in omega (arith, size, some, length-append before (codes ".0.")))
no_second (inr (inr (form, some, is))) = omega (arith, form)

no_first : IsFront 1 0 0 (codes "a.0.") → ⊥
no_first (inl (form, low, none, is)) = cc is
no_first (inr (inl (form, before, some, is))) = omega (arith, form)
no_first (inr (inr (form, some, is))) = omega (arith, form)

no_first_so : IsFront 1 0 1 (codes "0.") → ⊥
no_first_so (inl (form, low, none, is)) = omega (arith, none)
no_first_so (inr (inl (form, before, some, is))) = omega (arith, form)
no_first_so (inr (inr (form, some, is))) = omega (arith, form)

no_bare : IsFront 2 0 0 (codes ".0.") → ⊥
no_bare (inl (form, low, none, is)) = omega (arith, form)
no_bare (inr (inl (form, before, some, is))) = (let size : 3 ≡ length (before ++ codes ".0.") = ap (λ (t : List ℕ). length t) is in omega (arith, size, some, length-append before (codes ".0.")))
no_bare (inr (inr (form, some, is))) = omega (arith, form)

pub paths_are_exact : PathsAreExact
unfolding on_literals
paths_are_exact = record {
  one = one;
  none = λ is. no_text is.elements is.some is.joined is.each;
  slash = λ is. no_slash is.elements is.joined is.each;
  unnamed = λ is. no_name is.named.0 is.named.1;
  host = no_host;
  mixed = ends_otherwise (codes "a/v1x") 120 refl refl;
  unstable = λ has. no_dot (codes "gopkg.in/a-unstable") 1 refl has.2;
  greatest = (first_byte (codes "a.b/v18446744073709551615") 97 refl (λ e. omega (arith, e)), omega arith, lit< tt, (codes "a.b", refl));
  greatest_dot = ((codes "a.v18446744073709551615", refl), lit< tt, inl (codes "gopkg.in/a", refl));
  release = no_release;
  second = no_second;
  first = no_first;
  first_so = no_first_so;
  bare = no_bare;
  built = λ is. false≢true (version_back (codes "v1.0.0+meta") is);
}

-- ---- other definitions

same_go : (doc : List (Line Word)) → lines_in [] ≡ Ok doc → (dependency_of doc).go ≡ (1, 16)
unfolding on_literals
same_go [] e = refl
same_go (line ∷ lines) e = absurd (cc e)

no_other_go : IsDependencyIn [] (record { declared = None; go = (1, 17); requirements = [] }) → ⊥
unfolding on_literals
no_other_go (doc, parsed, none, is) =
    let wrong : 16 ≡ 17 = sym (ap (λ (go : ℕ × ℕ). go.1) (same_go (plain_lines doc) parsed)) ∙ ap (λ file. file.go.1) is in omega (arith, wrong)

no_chain : (y : ModuleVersion) (steps : List Step) → IsChain no_edge (Of y) steps → ⊥
no_chain y steps (goes_on chain before) = before.is_edge

pub parts_are_exact : PartsAreExact
unfolding on_literals
parts_are_exact = record {
  case = refl;
  colon = refl;
  letters = refl;
  go = refl;
  ten = refl;
  early = refl;
  unsplit = refl;
  before = refl;
  unopened = refl;
  below = refl;
  kept = refl;
  unchanged = refl;
  unlike = refl;
  good = refl;
  two_fields = λ is. omega (arith, is);
  missing = λ is. is;
  empty = λ is. cc is.0;
  other_go = no_other_go;
  chain = no_chain _ _;
}

-- ---- `versions`

only_one : (version : List ℕ) → Contains (codes "v2.0.0" ∷ []) version → codes "v2.0.0" ≡ version
only_one version there = elim (member_cases (codes "v2.0.0") version [] there) [
  | inl same ↦ same
  | inr later ↦ absurd (no_member version later)
]

listable : IsListable second_path (codes "v2.0.0")
unfolding on_literals
listable = record {
  canonical = version_so (codes "v2.0.0") refl;
  fit = (Slash 2, (first_byte second_path 97 refl (λ e. omega (arith, e)), omega arith, lit< tt, (codes "a.b", refl)), (refl, refl));
  no_pseudo = λ is. false≢true (pseudo_so (codes "v2.0.0") is);
}

none_ascends : IsStrictlySortedBy version_cmp []
unfolding IsStrictlySortedBy
none_ascends = tt

one_ascends : IsStrictlySortedBy version_cmp (codes "v2.0.0" ∷ [])
unfolding IsStrictlySortedBy
one_ascends = (tt, tt)

has_second : HasListed second_path (answer_in second_answers) (codes "v2.0.0" ∷ [])
unfolding on_literals
has_second = record {
  fetchable = refl;
  list = codes "v2.0.0";
  answered = refl;
  listed = record {
    ascending = one_ascends;
    members = λ version. search (listed_so version, there_so version);
  };
}
  where
    listed_so : (version : List ℕ) → Contains (codes "v2.0.0" ∷ []) version → IsListed second_path (codes "v2.0.0") version
    listed_so version there =
        subst (IsListed second_path (codes "v2.0.0")) (only_one version there) (record { named = (0, lit< tt, refl); listable = listable })

    there_so : (version : List ℕ) → IsListed second_path (codes "v2.0.0") version → Contains (codes "v2.0.0" ∷ []) version
    there_so version is = is.named

no_local : VersionsNeed (codes "m") false (answer_in []) (list_file (codes "m")) → ⊥
unfolding on_literals
no_local (inl need) = false≢true need.0
no_local (inr (versions, latest, is, chosen)) = (let wrong : list_file (codes "m") ≡ mod_file (codes "m") latest = is in cc wrong)

same_one : (x y : Name) → x ∷ [] ≡ y ∷ [] → x ≡ y
same_one x y e = cc e

no_cons : (x : Name) → x ∷ [] ≡ [] → ⊥
no_cons x e = cc e

no_answer : (reply : Reply) → Some reply ≡ None → ⊥
no_answer reply e = cc e

-- a device can't fail on a name that was answered
module _ (answers : List (Name × Reply)) (name : Name) (reply : Reply) (answered : answer_in answers name ≡ Some reply) where
  none_fails : HasNone answers name
  none_fails outcome (device other needs unasked failed is) =
      no_answer reply (sym answered ∙ subst (λ (n : Name). answer_in answers n ≡ None) (sym (same_one name other failed)) unasked)
  none_fails outcome (no_list refused unfailed) = no_cons name unfailed
  none_fails outcome (bad_file versions latest reply class says unfailed is) = no_cons name unfailed
  none_fails outcome (printed shown are unfailed is) = no_cons name unfailed

some_list : (a b : List ℕ) → Some (bytes a) ≡ Some (bytes b) → a ≡ b
some_list a b e = cc e

-- the list's version is shown
none_shown : (shown : List (List ℕ)) → AreShown m false (answer_in one_listed) shown → ⊥
unfolding on_literals
none_shown shown (all_listed has (inl all)) = false≢true all
none_shown shown (all_listed has (inr none)) =
    let named = subst (λ (list : List ℕ). Contains (map first_word (lines list)) (codes "v1.0.0")) (some_list (codes "v1.0.0") has.list has.answered) (0, lit< tt, refl) in
    let both : Contains shown (codes "v1.0.0") ↔ IsListed m has.list (codes "v1.0.0") = search (has.listed.members (codes "v1.0.0")) in
    let there = both.1 (record { named = named; listable = listable_so (codes "v1.0.0") refl refl }) in
    no_member (codes "v1.0.0") (subst (λ (versions : List (List ℕ)). Contains versions (codes "v1.0.0")) none there)
none_shown shown (not_retracted versions latest reply file intervals says are is) = no_answer reply (sym says.answered)

no_end : (outcome : Outcome) → VersionsEnds m false (answer_in one_listed) [] outcome → ⊥
unfolding on_literals
no_end outcome (device name needs unasked failed is) = no_cons name (sym failed)
no_end outcome (no_list refused unfailed) = cc refused
no_end outcome (bad_file versions latest reply class says unfailed is) = no_answer reply (sym says.answered)
no_end outcome (printed shown are unfailed is) = none_shown shown are

has_none : HasListed m (answer_in (listing (codes "v1.0.0-01") ∷ [])) []
unfolding on_literals
has_none = record {
  fetchable = refl;
  list = codes "v1.0.0-01";
  answered = refl;
  listed = record { ascending = none_ascends; members = λ version. search (listed_so version, no_version version) };
}
  where
    listed_so : (version : List ℕ) → Contains [] version → IsListed m (codes "v1.0.0-01") version
    listed_so version there = absurd (no_member version there)

    no_version : (version : List ℕ) → IsListed m (codes "v1.0.0-01") version → Contains [] version
    no_version version is = elim (member_cases (codes "v1.0.0-01") version [] is.named) [
      | inl same ↦ absurd (false≢true (version_back (codes "v1.0.0-01") (subst IsVersion (sym same) is.listable.canonical)))
      | inr later ↦ later
    ]

pub needs_are_exact : NeedsAreExact
needs_are_exact = record {
  all = printed (codes "v2.0.0" ∷ []) (all_listed has_second (inl refl)) refl refl;
  local = no_local;
  faulty = none_fails ((mod_file m (codes "v1.0.0"), absent) ∷ one_listed) (mod_file m (codes "v1.0.0")) absent refl;
  printed = none_fails (listing [] ∷ []) (list_file m) (bytes []) refl;
  unanswered = no_end;
  zero = printed [] (all_listed has_none (inl refl)) refl refl;
}
