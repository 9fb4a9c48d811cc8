use Rattle.std.proofs.Common.{◌≡◌, map, false}
use Rattle.std.specs.List.{list_any}
use Rattle.gm_name.specs.Lines.{fields}
use Rattle.gm_store_sums.specs.Order.{triple}
use Rattle.gm_store_sums.proofs.Summing.{HoldsGiven, is_invalid}
use Rattle.gm_store_sums.proofs.sum_lines.sums_of.Given as goal

-- the lines so far are valid, and the list has the hashes that they list
abbrev pub invariant-loop-line : goal.invariant-loop-line
invariant-loop-line l = HoldsGiven (map fields (map (λ line. line.now) l.yielded)) (map triple l.sums.items)
    × (list_any is_invalid (map (λ line. line.now) l.yielded) ≡ false)
