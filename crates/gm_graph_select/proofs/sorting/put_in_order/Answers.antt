use Rattle.std.proofs.lemmas.List.Sorted.{Contains-permutation, IsNonDecreasingBy-from_sort, IsPermutation-sym}
use Rattle.std.proofs.Common.{ℕ}
use Rattle.gm_graph_select.proofs.sorting.put_in_order.Goals as goal

pub move_distinct-requires : goal.move_distinct-requires
move_distinct-requires c = IsNonDecreasingBy-from_sort (λ (n : ℕ). n) c.sort_unstable.new.self c.sort_unstable.ensures.sorted

pub returns-clause-members : goal.returns-clause-members
returns-clause-members c = λ x.
    let old = c.args.numbers.now in
    let sorted = c.sort_unstable.new.self in
    let same = c.sort_unstable.ensures.permutation in
    let moved = c.move_distinct.ensures.members x in (
      (λ h. moved.0 (Contains-permutation old sorted x same h)),
      (λ h. Contains-permutation sorted old x (IsPermutation-sym old sorted same) (moved.1 h)),
    )
