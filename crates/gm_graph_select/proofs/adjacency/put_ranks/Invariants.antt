use Rattle.std.proofs.Common.{◌≡◌, ◌++◌, drop, map, take, slice_index}
use Rattle.gm_graph_select.proofs.adjacency.put_ranks.Given as goal

abbrev pub invariant-loop-number : goal.invariant-loop-number
invariant-loop-number l = l.numbers ≡ map (slice_index l.ranks) (take l.number-index l.fn.numbers) ++ drop l.number-index l.fn.numbers
