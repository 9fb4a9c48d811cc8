use Rattle.std.proofs.Common.{take}
use Rattle.gm_graph_select.specs.Private.Marking.{AreMarked}
use Rattle.gm_graph_select.proofs.marking.mark_each.Given as goal

abbrev pub invariant-loop-number : goal.invariant-loop-number
invariant-loop-number l = AreMarked l.fn.marks (take l.number-index l.numbers) l.marks
