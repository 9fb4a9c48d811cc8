use Rattle.std.proofs.Common.{◌≡◌, ◌++◌, drop, map, take}
use Rattle.gm_graph_select.specs.Private.Adjacency.{source_by_ranks}
use Rattle.gm_graph_select.proofs.adjacency.rank_sources.Given as goal

abbrev pub invariant-loop-one : goal.invariant-loop-one
invariant-loop-one l = l.sources ≡ map (source_by_ranks l.ranks) (take l.one-index l.fn.sources) ++ drop l.one-index l.fn.sources
