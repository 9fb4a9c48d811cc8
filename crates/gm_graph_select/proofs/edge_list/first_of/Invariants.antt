use Rattle.std.proofs.Common.{◌≡◌, drop}
use Rattle.gm_graph_select.specs.Adjacency.{by_step}
use Rattle.gm_graph_select.specs.Private.Adjacency.{numbered_edges}
use Rattle.gm_graph_select.proofs.edge_list.first_of.Given as goal

-- No edge leaves the sources so far.
abbrev pub invariant-loop-place : goal.invariant-loop-place
invariant-loop-place l = numbered_edges (by_step l.lists (drop l.place l.sources)) ≡ numbered_edges (by_step l.lists l.sources)
