-- Collecting the versions that may be listed from a list of words.
use Rattle.std.proofs.Common.{◌≡◌, ℕ, List, [], ◌∷◌, ◌++◌, map, nat_eq, sym, subst, ◌∙◌, inl, inr, Bor, Option, Some, None}
use Rattle.std.specs.Prelude.{Contains}
use Rattle.std.specs.Cmp.Lexicographic.{nat_list_eq_equiv, pointwise, same_text}
use Rattle.std.specs.List.{dedup}
use Rattle.std.specs.Option.{IfNone, IfSome}
use Rattle.std.specs.List.Sorted.{IsPermutation, IsSorted}
use Rattle.std.proofs.lemmas.List.{map_push}
use Rattle.std.proofs.lemmas.List.Elements.{Contains-append_left, Contains-push, Contains-push_cases}
use Rattle.std.proofs.lemmas.List.Kept.{Contains-dedup, Contains-from_dedup, IsStrictlySortedBy-dedup}
use Rattle.std.proofs.lemmas.List.Sorted.{Contains-permutation, IsPermutation-sym}
use Rattle.gm_version.specs.Version.{version_cmp}
use Rattle.gm_version.specs.VersionOrder.{version_ties, version_total}
use Rattle.gm_name.specs.Lines.{first_word, lines}
use Rattle.gm_store.specs.Listed.{AreListed, IsListable}
use Rattle.gm_store.specs.Private.Versions.{HoldsListable}

-- one more word, and it may be listed
pub holds_more : (path : List ℕ) (words versions : List (List ℕ)) (word : List ℕ) → HoldsListable path words versions
    → IsListable path word → HoldsListable path (words ++ word ∷ []) (versions ++ word ∷ [])
holds_more path words versions word holds listable = λ v. (
  λ h. elim (Contains-push_cases versions word v h) [
    | inl old ↦ let both = (holds v).0 old in (Contains-append_left words (word ∷ []) v both.0, both.1)
    | inr same ↦ subst (λ v. Contains (words ++ word ∷ []) v × IsListable path v) same (Contains-push words word, listable)
  ],
  λ h. elim (Contains-push_cases words word v h.0) [
    | inl old ↦ Contains-append_left versions (word ∷ []) v ((holds v).1 (old, h.1))
    | inr same ↦ subst (Contains (versions ++ word ∷ [])) same (Contains-push versions word)
  ],
)

-- one more word, and it may not be listed
pub holds_same : (path : List ℕ) (words versions : List (List ℕ)) (word : List ℕ) → HoldsListable path words versions
    → ¬ (IsListable path word) → HoldsListable path (words ++ word ∷ []) versions
holds_same path words versions word holds refused = λ v. (
  λ h. let both = (holds v).0 h in (Contains-append_left words (word ∷ []) v both.0, both.1),
  λ h. elim (Contains-push_cases words word v h.0) [
    | inl old ↦ (holds v).1 (old, h.1)
    | inr same ↦ absurd (refused (subst (IsListable path) (sym same) h.1))
  ],
)

-- after sorting and removing duplicates, the list is that of the listed versions
pub listed_from : (path text : List ℕ) (found sorted : List (List ℕ))
    → HoldsListable path (map first_word (lines text)) found → IsPermutation found sorted → IsSorted version_cmp sorted
    → AreListed path text (dedup (pointwise nat_eq) sorted)
listed_from path text found sorted holds moved ordered = record {
  ascending = IsStrictlySortedBy-dedup version_total version_ties sorted ordered;
  members = λ v. (
    λ h. let both = (holds v).0 (Contains-permutation _ _ v (IsPermutation-sym _ _ moved)
        (Contains-from_dedup _ sorted v h)) in record { named = both.0; listable = both.1 },
    λ h. Contains-dedup nat_list_eq_equiv (λ x y e. same_text x y (sym e)) sorted v (Contains-permutation _ _ v moved ((holds v).1 (h.named, h.listable))),
  );
}

-- one more line
pub line_more : (path : List ℕ) (lines : List (Bor (List ℕ))) (line : Bor (List ℕ)) (new : List (List ℕ))
    → HoldsListable path (map first_word (map (λ line. line.now) lines) ++ first_word line.now ∷ []) new
    → HoldsListable path (map first_word (map (λ line. line.now) (lines ++ line ∷ []))) new
line_more path lines line new holds = rw (map_push, map_push) holds

-- one more word that was read, and it may be listed
pub pushes_word : (words old new : List (List ℕ)) (path : List ℕ) (read first version : List ℕ) → read ≡ first
    → (version ≡ read) × IsListable path read → new ≡ old ++ version ∷ [] → HoldsListable path words old
    → HoldsListable path (words ++ first ∷ []) new
pushes_word words old new path read first version is listable grown holds =
    rw (grown, listable.0, is) (holds_more path words old first holds (subst (IsListable path) is listable.1))

-- one more word that was read, and it may not be listed
pub passes_word : (words old : List (List ℕ)) (path read first : List ℕ) → read ≡ first → ¬ (IsListable path read)
    → HoldsListable path words old → HoldsListable path (words ++ first ∷ []) old
passes_word words old path read first is refused holds = holds_same path words old first holds (subst (λ word. ¬ (IsListable path word)) is refused)

pub found_some : (path word : List ℕ) (r : Option (List ℕ)) (version : List ℕ) → r ≡ Some version
    → IfSome r (λ version. (version ≡ word) × IsListable path word) → (version ≡ word) × IsListable path word
found_some path word None version e h = cc e
found_some path word (Some v) version e h = let same : v ≡ version = cc e in (sym same ∙ h.0, h.1)

pub found_none : (path word : List ℕ) (r : Option (List ℕ)) → r ≡ None → IfNone r (¬ (IsListable path word)) → ¬ (IsListable path word)
found_none path word None e h = h
found_none path word (Some v) e h = cc e
