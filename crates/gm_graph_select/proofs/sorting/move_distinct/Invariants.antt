use Rattle.gm_graph_select.proofs.Moving.{AreMoved}
use Rattle.gm_graph_select.proofs.sorting.move_distinct.Given as goal

abbrev pub invariant-loop-place : goal.invariant-loop-place
invariant-loop-place l = AreMoved l.fn.numbers l.numbers l.place l.count
