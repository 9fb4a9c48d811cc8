-- What the law of `versions` concludes is false of outputs that contradict it.
use Rattle.std.proofs.Common.{◌≡◌, ◌∙◌, ◌∷◌, ℕ, true, false, List, [], Some, Contains, ap, codes, inl, inr, not, refl, subst, sym}
use Rattle.std.specs.Ordering.{is_gt}
use Rattle.std.proofs.lemmas.Bool.{false≢true}
use Rattle.std.proofs.lemmas.Option.{same_Some}
use Rattle.gm_version.specs.Version.{IsVersion}
use Rattle.gm_file.specs.Directives.{VersionInterval, pair}
use Rattle.gm_file.specs.Shown.{is_at_most, is_retracted, shown_of}
use Rattle.gm_store_parts.specs.Asked.{Name, Reply, bytes}
use Rattle.gm_store.specs.Listed.{IsListed}
use Rattle.gm_graph_files.proofs.OneReading.{one_retracted}
use Rattle.gm_graph_select.proofs.Ascending.{member_head, no_member, one_member}
use Rattle.gomod_texts.specs.Outcome.{Outcome, text_outcome}
use Rattle.gomod_outcomes.specs.Versions.{versions_line}
use Rattle.gomod_texts.proofs.Uniqueness.{latest_once}
use Rattle.gomod_laws.specs.CounterVersions.{ListedIsMissing, RetractedIsShown, UnretractedIsLeftOut, both_of_a}
use Rattle.gomod_laws.specs.VersionLaws.{AreUnretracted, LeavesOutRetracted, Retracts}
use Rattle.gomod_laws.proofs.AdditionsKept.{from_filtered, in_filtered}
use Rattle.gomod_laws.proofs.KnownVersions.{one_one, one_one_is, one_one_is_latest, one_zero, one_zero_is, one_zero_listed, same_precedence, versions_differ}
use Rattle.gomod_laws.proofs.ShownTexts.{same_text}
use Rattle.gomod_laws.proofs.WrittenLists.{each_of}
use Rattle.gomod_laws.proofs.VersionLines.{line_says_versions}

abbrev AreVersions : List (List ℕ) → Type 0
AreVersions versions = (version : List ℕ) → Contains versions version → IsVersion version

-- ---- what is answered

same_bytes : {a b : List ℕ} → Some (bytes a) ≡ Some (bytes b) → a ≡ b
same_bytes e = cc e

-- ---- retracted versions

abbrev both : List (List ℕ)
both = one_zero ∷ one_one ∷ []

both_known : AreVersions both
both_known = each_of IsVersion both (one_zero_is, (one_one_is, tt))

one_known : AreVersions (one_one ∷ [])
one_known = each_of IsVersion (one_one ∷ []) (one_one_is, tt)

module _ (asked : List (Name × Reply)) (one other : Outcome) (law : LeavesOutRetracted asked (codes "a.b") one other) where
  listed_are_versions : AreVersions law.versions
  listed_are_versions version there = ((law.listed.are.members version).0 there).listable.canonical

  all_are : (known : List (List ℕ)) → AreVersions known → other ≡ text_outcome (versions_line (codes "a.b") known) → law.versions ≡ known
  all_are known are is =
      line_says_versions (codes "a.b") law.versions known listed_are_versions are (same_text _ _ (sym law.other_prints ∙ is))

  from_all : (versions shown : List (List ℕ)) → AreVersions versions → AreUnretracted asked (codes "a.b") versions shown → AreVersions shown
  from_all versions shown are (inl (none, nothing)) = subst AreVersions (sym nothing) (λ version there. absurd (no_member _ there))
  from_all versions shown are (inr (latest, intervals, greatest, says, is)) =
      subst AreVersions (sym is) (λ version there. are _ (from_filtered (λ v. not (is_retracted intervals v)) _ _ there).0)

  rest_are : (known : List (List ℕ)) → AreVersions known → one ≡ text_outcome (versions_line (codes "a.b") known) → law.shown ≡ known
  rest_are known are is =
      line_says_versions (codes "a.b") law.shown known (from_all _ _ listed_are_versions law.unretracted) are
      (same_text _ _ (sym law.one_prints ∙ is))

-- the latest version's file retracts one thing
retracts_once : (asked : List (Name × Reply)) (path version : List ℕ) (xs ys : List VersionInterval)
    → Retracts asked path version xs → Retracts asked path version ys → xs ≡ ys
retracts_once asked path version xs ys (reply, file, answered, finds, are) (other, also, known, says, is) =
    let same = same_Some _ _ (sym answered ∙ known) in
    one_retracted _ _ _ (rw same at are) is

-- what is shown of both, if the latest one retracts these
shown_of_both : (asked : List (Name × Reply)) (shown : List (List ℕ)) (intervals : List VersionInterval) → Retracts asked (codes "a.b") one_one intervals
    → AreUnretracted asked (codes "a.b") both shown → shown ≡ shown_of intervals both
shown_of_both asked shown intervals retracts (inl (none, nothing)) = absurd (cc none)
shown_of_both asked shown intervals retracts (inr (latest, others, greatest, says, is)) =
    let own = latest_once _ _ _ greatest one_one_is_latest in
    let same = retracts_once asked _ _ _ _ (rw own at says) retracts in
    is ∙ ap (λ xs. shown_of xs both) same

at_most_itself : is_at_most one_zero one_zero ≡ true
at_most_itself = ap (λ o. not (is_gt o)) same_precedence

holds_itself : (v : List ℕ) → is_at_most v v ≡ true → is_retracted (pair v v ∷ []) v ≡ true
holds_itself v is = rw is refl

pub retracted_is_shown : RetractedIsShown
retracted_is_shown asked retracts law =
    let all = all_are _ both_of_a both_of_a law _ both_known refl in
    let rest = rest_are _ both_of_a both_of_a law both both_known refl in
    let intervals = pair one_zero one_zero ∷ [] in
    let shown =
    shown_of_both asked _ _ retracts (rw all at law.unretracted) in
    let there : Contains (shown_of intervals both) one_zero =
    subst (λ vs. Contains vs one_zero) (sym rest ∙ shown) (member_head _ (one_one ∷ [])) in
    let kept = (from_filtered (λ v. not (is_retracted intervals v)) both _ there).1 in
    let gone : not (is_retracted intervals one_zero) ≡ false = ap not (holds_itself one_zero at_most_itself) in
    false≢true (sym gone ∙ kept)

pub unretracted_is_left_out : UnretractedIsLeftOut
unretracted_is_left_out asked retracts law =
    let none : List VersionInterval = [] in
    let first = text_outcome (codes "a.b v1.1.0\n") in
    let all = all_are asked first both_of_a law _ both_known refl in
    let rest = rest_are asked first both_of_a law (one_one ∷ []) one_known refl in
    let shown =
    shown_of_both asked _ _ retracts (rw all at law.unretracted) in
    let there = in_filtered (λ v. not (is_retracted none v)) both _ (member_head one_zero (one_one ∷ [])) refl in
    let only : Contains (one_one ∷ []) one_zero = subst (λ (vs : List (List ℕ)). Contains vs one_zero) (sym shown ∙ rest) there in
    versions_differ (sym (one_member _ _ only))

pub listed_is_missing : ListedIsMissing
listed_is_missing asked one answered law =
    let other = text_outcome (codes "a.b v1.1.0\n") in
    let all = all_are _ one other law (one_one ∷ []) one_known refl in
    let list = same_bytes (sym law.listed.answered ∙ answered) in
    let named : IsListed (codes "a.b") law.listed.list one_zero = rw list one_zero_listed in
    let only : Contains (one_one ∷ []) one_zero = rw all at ((law.listed.are.members one_zero).1 named) in
    versions_differ (sym (one_member _ _ only))
