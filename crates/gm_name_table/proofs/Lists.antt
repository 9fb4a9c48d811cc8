-- Lists of modules with one more.
use Rattle.std.proofs.Common.{◌≡◌, ◌∙◌, ◌<◌, ℕ, zero, suc, false, List, [], ◌∷◌, ◌++◌, Option, None, Some, length, ap, ap₂, arith, refl, sym, subst, inl, inr}
use Rattle.std.specs.Prelude.{◌⊎◌, ◌↔◌, IfSome, slice_get}
use Rattle.std.specs.List.{IsDistinct, list_any}
use Rattle.std.proofs.lemmas.Bool.{false_from_ne_true, false≢true}
use Rattle.std.proofs.lemmas.List.Folds.{list_any_none}
use Rattle.std.proofs.lemmas.Map.Keys.{IsDistinct-push, apart_from_distinct}
use Rattle.std.proofs.lemmas.Option.{get_or_from_slice_get, slice_get-get_or, slice_get_within}
use Rattle.gm_name.specs.ModuleVersion.{ModuleVersion, pair_eq}
use Rattle.gm_name.specs.Private.ModuleVersion.{pair_eq-Decides, pairs-equivalence}
use Rattle.gm_name_table.specs.Private.Lists.{IsAbsent}
use Rattle.gm_name_table.proofs.Buckets.{before}

-- In a list with one more module, the others stand where they stood, and it stands at the end.
pub kept : (pairs : List ModuleVersion) (pair other : ModuleVersion) (i : ℕ) → slice_get pairs i ≡ Some other
    → slice_get (pairs ++ pair ∷ []) i ≡ Some other
kept pairs pair other i e = before pairs pair i (slice_get_within pairs i other e) ∙ e

pub old-or-last : (pairs : List ModuleVersion) (pair other : ModuleVersion) (i : ℕ) → slice_get (pairs ++ pair ∷ []) i ≡ Some other
    → (slice_get pairs i ≡ Some other) ⊎ ((i ≡ length pairs) × (pair ≡ other))
old-or-last [] pair other zero e = inr (refl, cc e)
old-or-last [] pair other (suc i) e = absurd (cc e)
old-or-last (first ∷ pairs) pair other zero e = inl e
old-or-last (first ∷ pairs) pair other (suc i) e =
    elim (old-or-last pairs pair other i e) [ inl old ↦ inl old | inr end ↦ inr (ap suc end.0, end.1) ]

-- No module of a list is equal to one that stands nowhere in it.
none-equal : (pairs : List ModuleVersion) (pair : ModuleVersion) → IsAbsent pairs pair → list_any (pair_eq pair) pairs ≡ false
none-equal pairs pair absent = list_any_none (pair_eq pair) pairs (λ i other within. false_from_ne_true _ (λ equal.
    absent i (slice_get-get_or pairs i other within ∙ ap Some (sym ((pair_eq-Decides _ _).0 equal)))))

pub no_pairs : IsDistinct pair_eq []
unfolding IsDistinct
no_pairs = tt

pub still-distinct : (pairs : List ModuleVersion) (pair : ModuleVersion) → IsDistinct pair_eq pairs → IsAbsent pairs pair
    → IsDistinct pair_eq (pairs ++ pair ∷ [])
still-distinct pairs pair distinct absent =
    IsDistinct-push pairs-equivalence pairs pair distinct (none-equal pairs pair absent)

-- ---- where a module stands in a list without duplicates

one-there : (pairs : List ModuleVersion) (i j : ℕ) (pair : ModuleVersion) → IsDistinct pair_eq pairs → slice_get pairs i ≡ Some pair
    → slice_get pairs j ≡ Some pair → i < j → ⊥
one-there pairs i j pair distinct first second below =
    let apart = apart_from_distinct pair_eq pairs i j ([], []) distinct below (slice_get_within pairs j pair second) in
    let same = ap₂ pair_eq (get_or_from_slice_get pairs i pair ([], []) first) (get_or_from_slice_get pairs j pair ([], []) second) in
    false≢true (sym apart ∙ same ∙ (pair_eq-Decides pair pair).1 refl)

pub one-place : (pairs : List ModuleVersion) (i j : ℕ) (pair : ModuleVersion) → IsDistinct pair_eq pairs → slice_get pairs i ≡ Some pair
    → slice_get pairs j ≡ Some pair → i ≡ j
one-place pairs i j pair distinct first second =
    let not_before : i < j → ⊥ = one-there pairs i j pair distinct first second in
    let not_after : j < i → ⊥ = one-there pairs j i pair distinct second first in
    omega (arith, not_before, not_after)

-- What a look-up finds is where the module stands, and there is nothing else to find.
pub found-exactly : (pairs : List ModuleVersion) (pair : ModuleVersion) (found : Option ℕ) → IsDistinct pair_eq pairs
    → IfSome found (λ number. slice_get pairs number ≡ Some pair) → (found ≡ None → IsAbsent pairs pair)
    → (number : ℕ) → (found ≡ Some number) ↔ (slice_get pairs number ≡ Some pair)
found-exactly pairs pair None distinct some none number = ((λ e. absurd (cc e)), (λ there. absurd (none refl number there)))
found-exactly pairs pair (Some place) distinct some none number = (
  (λ e. let same : place ≡ number = cc e in subst (λ n. slice_get pairs n ≡ Some pair) same some),
  (λ there. ap Some (one-place pairs place number pair distinct some there)),
)
