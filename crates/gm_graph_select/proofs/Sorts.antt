-- Sorted lists without duplicates.
use Rattle.std.proofs.Common.{◌≡◌, ◌+◌, ◌<◌, ◌≤◌, ℕ, Bool, true, false, List, [], ◌∷◌, length, get_or, Contains, ap, ◌∙◌, sym, refl, arith}
use Rattle.std.proofs.lemmas.Bool.{false≢true}
use Rattle.std.proofs.lemmas.Cmp.{by_ranked, ranked}
use Rattle.std.specs.declared.cmp.Ordering.{Ordering}
use Rattle.std.specs.declared.cmp.Ordering.TheVariants.{Less, Equal, Greater}
use Rattle.std.specs.Ordering.{eq_by_cmp, is_eq, is_lt, nat_cmp, ordering_reverse, ordering_then}
use Rattle.std.specs.Cmp.{IsTotalOrder, IsEquivalence, Equal-is, on_total}
use Rattle.std.specs.List.{AllAdjacentBelow, AllPairs, IsDistinct, dedup}
use Rattle.std.specs.List.Sorted.{IsNonDecreasingBy, IsSorted, IsPermutation}
use Rattle.std.proofs.lemmas.List.Kept.{Any-dedup, Contains-from_dedup, IsStrictlySortedBy-dedup}
use Rattle.std.proofs.lemmas.List.Sorted.{Contains-permutation, IsNonDecreasingBy-from_all_adjacent, IsPermutation-sym}
use Rattle.std.proofs.lemmas.Map.Keys.{Less-from_sorted, apart_from_distinct, sorted_from_all_adjacent}
use Rattle.gm_graph_select.specs.Order.{IsAscending, HaveSame, TiesAreEqual}

module _ {T : Type 0} {cmp : T → T → Ordering} (total : IsTotalOrder cmp) {eq : T → T → Bool} (ties : (x y : T) → eq x y ≡ eq_by_cmp cmp x y) where
  pub ascending : (xs : List T) → IsSorted cmp xs → IsAscending cmp (dedup eq xs)
  ascending xs sorted i j d lt below =
      Less-from_sorted cmp (dedup eq xs) i j d (IsStrictlySortedBy-dedup total ties xs sorted) lt below

  pub members : IsEquivalence eq → (xs ys : List T) → TiesAreEqual cmp xs → IsPermutation xs ys → HaveSame xs (dedup eq ys)
  members laws xs ys tellable same x = (kept, from)
    where
      from : Contains (dedup eq ys) x → Contains xs x
      from h = Contains-permutation ys xs x (IsPermutation-sym xs ys same) (Contains-from_dedup eq ys x h)

      kept : Contains xs x → Contains (dedup eq ys) x
      kept h =
          let (k, y, below, at, e) = Any-dedup laws ys x (Contains-permutation xs ys x same h) in
          let there : Contains (dedup eq ys) y = (k, below, at) in
          let inside = Contains-permutation ys xs y (IsPermutation-sym xs ys same) (Contains-from_dedup eq ys y there) in
          let is : x ≡ y = tellable x y h inside ((Equal-is (cmp x y)).0 (sym (ties x y) ∙ e)) in
          rw is there

pub lt_less : (r : Ordering) → is_lt r ≡ true → r ≡ Less
lt_less Less e = refl
lt_less Equal e = cc
lt_less Greater e = cc

-- Each element is less than the next.
pub from_adjacent : {T : Type 0} {cmp : T → T → Ordering} → IsTotalOrder cmp → (xs : List T)
    → AllAdjacentBelow (λ x y. true ≡ is_lt (cmp x y)) xs (length xs) → IsAscending cmp xs
from_adjacent {T} {cmp} total xs each i j d lt below =
    Less-from_sorted cmp xs i j d (sorted_from_all_adjacent total xs d (λ k inside. lt_less _ (sym (each k d inside)))) lt below

-- Keys that don't fall and differ rise.
pub keys_ascend : {T K : Type 0} {cmp : K → K → Ordering} → IsTotalOrder cmp → (key : T → K) (xs : List T)
    → ((k : ℕ) (d : T) → k + 1 < length xs → is_lt (cmp (key (get_or xs (k + 1) d)) (key (get_or xs k d))) ≡ false)
    → IsDistinct (λ a b. is_eq (cmp (key a) (key b))) xs → AllPairs (λ a b. cmp (key a) (key b) ≡ Less) xs
keys_ascend {cmp} total key xs sorted distinct = from_adjacent (on_total key total) xs (λ k d inside.
    let x = key (get_or xs k d) in
    let y = key (get_or xs (k + 1) d) in
    less (cmp x y) (ap is_lt (sym (total.antisymm y x)) ∙ sorted k d inside)
    (apart_from_distinct (λ a b. is_eq (cmp (key a) (key b))) xs k (k + 1) d distinct (omega arith) inside))
  where
    less : (r : Ordering) → is_lt (ordering_reverse r) ≡ false → is_eq r ≡ false → true ≡ is_lt r
    less Less e f = refl
    less Equal e f = cc
    less Greater e f = cc

-- It is the same which of two elements comes first.
pub ties_flip : {K : Type 0} {cmp : K → K → Ordering} → IsTotalOrder cmp → (x y : K) → is_eq (cmp x y) ≡ is_eq (cmp y x)
ties_flip {cmp} total x y = ap is_eq (total.antisymm x y) ∙ flips (cmp y x)
  where
    flips : (r : Ordering) → is_eq (ordering_reverse r) ≡ is_eq r
    flips Less = refl
    flips Equal = refl
    flips Greater = refl

-- Some element is not less than the next.
pub not_ascending : {T : Type 0} (cmp : T → T → Ordering) (xs : List T) (k : ℕ) → k + 1 < length xs
    → ((d : T) → false ≡ is_lt (cmp (get_or xs k d) (get_or xs (k + 1) d))) → IsAscending cmp xs → ⊥
not_ascending cmp [] k below low up = omega (arith, below)
not_ascending cmp (x ∷ xs) k below low up = false≢true (low x ∙ ap is_lt (up k (k + 1) x (omega arith) below))

-- A list that ascends by a number first is in the order of these numbers.
pub numbers_ascend : {T : Type 0} (number : T → ℕ) (cmp : T → T → Ordering) (xs : List T)
    → IsAscending (λ a b. ordering_then (nat_cmp (number a) (number b)) (cmp a b)) xs → IsNonDecreasingBy number xs
numbers_ascend number cmp xs up = IsNonDecreasingBy-from_all_adjacent number xs (λ k d below.
    at_most (number (get_or xs k d)) (number (get_or xs (k + 1) d)) (cmp (get_or xs k d) (get_or xs (k + 1) d)) (up k (k + 1) d (omega arith) below))
  where
    at_most : (m n : ℕ) (r : Ordering) → ordering_then (nat_cmp m n) r ≡ Less → m ≤ n
    at_most m n r e = by_ranked (m < n) (m ≡ n) (n < m) (nat_cmp m n) (ranked m n (nat_cmp m n) refl)
        (λ is low. omega (arith, low)) (λ is same. omega (arith, same))
        (λ is high. absurd (let wrong : Greater ≡ Less = sym (ap (λ (o : Ordering). ordering_then o r) is) ∙ e in cc wrong))
