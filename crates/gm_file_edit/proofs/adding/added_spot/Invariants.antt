use Rattle.gm_file_edit.proofs.AddingCode.{IsTail}
use Rattle.gm_file_edit.proofs.adding.added_spot.Given as goal

abbrev pub invariant-loop-n : goal.invariant-loop-n
invariant-loop-n l = IsTail l.fn.own l.lines l.n

abbrev pub decreases-loop-n : goal.decreases-loop-n
decreases-loop-n l = l.n
