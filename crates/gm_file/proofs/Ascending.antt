-- Precedence as a test, and intervals that are sorted by their low ends.
use Rattle.std.proofs.Common.{◌≡◌, ◌<◌, ◌≤◌, ◌||◌, suc, ℕ, Bool, true, false, not, List, [], ◌∷◌, map, length, slice_index_or, ap, sym, subst, refl, arith}
use Rattle.std.proofs.lemmas.Bool.{not-true}
use Rattle.std.specs.Cmp.{IsTotalOrder, on_total, then_total}
use Rattle.std.specs.List.{AllByRecursion, list_any}
use Rattle.std.specs.List.Sorted.{IsPermutation, IsSorted}
use Rattle.std.specs.Ordering.{is_gt, is_lt, on, ordering_reverse, ordering_then}
use Rattle.std.specs.declared.cmp.Ordering.{Ordering}
use Rattle.std.specs.declared.cmp.Ordering.TheVariants.{Less, Equal, Greater}
use Rattle.std.proofs.lemmas.Cmp.{upto}
use Rattle.std.proofs.lemmas.List.Sorted.{IsPermutation-map, list_any-IsPermutation, ranks_by, sorted_far}
use Rattle.gm_version.specs.Version.{parts_in, precedence, version_cmp}
use Rattle.gm_version.specs.VersionOrder.{precedence_total, version_total}
use Rattle.gm_file.specs.Directives.{VersionInterval}
use Rattle.gm_file.specs.Shown.{holds_version, is_at_most}
use Rattle.gm_file.specs.Private.Swept.{AreSorted, Ascend, ends_view}
use Rattle.gm_file.specs.declared.sweep.Ends.{Ends}

by_parts : IsTotalOrder (on parts_in precedence)
by_parts = on_total parts_in precedence_total

pub upto_trans : (a b c : List ℕ) → is_at_most a b ≡ true → is_at_most b c ≡ true → is_at_most a c ≡ true
upto_trans a b c one other = ap not (upto by_parts a b c (not-true _ one) (not-true _ other))

turned : (r s : Ordering) → s ≡ ordering_reverse r → not (is_gt r) ≡ false → not (is_gt s) ≡ true
turned Less s e above = cc above
turned Equal s e above = cc above
turned Greater s e above = rw e

pub upto_back : (a b : List ℕ) → is_at_most a b ≡ false → is_at_most b a ≡ true
upto_back a b above = turned _ _ (by_parts.antisymm b a) above

less_first : (r s : Ordering) → ordering_then r s ≡ Less → not (is_gt r) ≡ true
less_first Less s e = refl
less_first Equal s e = refl
less_first Greater s e = cc e

pub upto_less : (v w : List ℕ) → version_cmp v w ≡ Less → is_at_most v w ≡ true
upto_less v w e = less_first _ _ e

first_not_less : (r s t : Ordering) → is_lt (ordering_then (ordering_then r s) t) ≡ false → is_lt r ≡ false
first_not_less Less s t e = e
first_not_less Equal s t e = refl
first_not_less Greater s t e = refl

reversed : (r s : Ordering) → s ≡ ordering_reverse r → is_lt r ≡ false → not (is_gt s) ≡ true
reversed Less s e above = cc above
reversed Equal s e above = rw e
reversed Greater s e above = rw e

-- the order of ends: by the low end, and then by the high end
abbrev ends_cmp : Ends → Ends → Ordering
ends_cmp a b = ordering_then (version_cmp a.low.now b.low.now) (version_cmp a.high.now b.high.now)

ends_total : IsTotalOrder ends_cmp
ends_total = then_total (on_total (λ (e : Ends). e.low.now) version_total) (on_total (λ (e : Ends). e.high.now) version_total)

not_below : (a b : Ends) → is_lt (ends_cmp b a) ≡ false → is_at_most a.low.now b.low.now ≡ true
not_below a b e = reversed _ _ (by_parts.antisymm a.low.now b.low.now) (first_not_less _ _ _ e)

all_above : (low : List ℕ) (xs : List Ends) → ((j : ℕ) (d : Ends) → j < length xs → is_at_most low (slice_index_or xs j d).low.now ≡ true)
    → AllByRecursion (λ other. is_at_most low other.0 ≡ true) (map ends_view xs)
all_above low [] above = tt
all_above low (x ∷ xs) above = (above 0 x (omega arith), all_above low xs (λ j d within. above (suc j) d (omega arith)))

ascend_from : (xs : List Ends)
    → ((i j : ℕ) (d : Ends) → i ≤ j → j < length xs → is_at_most (slice_index_or xs i d).low.now (slice_index_or xs j d).low.now ≡ true)
    → Ascend (map ends_view xs)
ascend_from [] above = tt
ascend_from (x ∷ xs) above = (
  all_above x.low.now xs (λ j d within. above 0 (suc j) d (omega arith) (omega arith)),
  ascend_from xs (λ i j d order within. above (suc i) (suc j) d (omega arith) (omega arith)),
)

-- the result of sorting ends
pub sorted_from : (intervals : List VersionInterval) (found sorted : List Ends) → map ends_view found ≡ intervals → IsPermutation found sorted
    → IsSorted ends_cmp sorted → AreSorted (map ends_view sorted) intervals
sorted_from intervals found sorted same moved ordered = record {
  ascend = ascend_from _ (λ i j d order within. not_below (slice_index_or sorted i d) (slice_index_or sorted j d)
      (sorted_far (λ x y. is_lt (ends_cmp x y)) (ranks_by ends_total (λ (e : Ends). e)) _ ordered _ _ d order within));
  same = λ version. sym (subst (λ ps. list_any (holds_version version) ps ≡ list_any (holds_version version) (map ends_view sorted)) same
      (list_any-IsPermutation _ _ _ (IsPermutation-map ends_view found sorted moved)));
}

-- the higher of two ends
pub farther_kept : (reach high version : List ℕ) → is_at_most high reach ≡ true
    → is_at_most version reach ≡ (is_at_most version reach || is_at_most version high)
farther_kept reach high version below = by_test _ _ (λ e. upto_trans version high reach e below)
  where
    by_test : (a b : Bool) → (b ≡ true → a ≡ true) → a ≡ (a || b)
    by_test true b f = refl
    by_test false true f = f refl
    by_test false false f = refl

pub farther_new : (reach high version : List ℕ) → is_at_most high reach ≡ false
    → is_at_most version high ≡ (is_at_most version reach || is_at_most version high)
farther_new reach high version above = by_test _ _ (λ e. upto_trans version reach high e (upto_back high reach above))
  where
    by_test : (a b : Bool) → (a ≡ true → b ≡ true) → b ≡ (a || b)
    by_test true b f = f refl
    by_test false b f = refl
