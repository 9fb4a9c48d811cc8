use Rattle.std.proofs.Common.{◌≡◌, drop}
use Rattle.gm_graph_select.specs.Greatest.{greatest_of}
use Rattle.gm_graph_select.proofs.selecting.first_selected.Given as goal

-- None of the vertices so far is selected.
abbrev pub invariant-loop-place : goal.invariant-loop-place
invariant-loop-place l = greatest_of l.main (drop l.place l.vertices) ≡ greatest_of l.main l.vertices
