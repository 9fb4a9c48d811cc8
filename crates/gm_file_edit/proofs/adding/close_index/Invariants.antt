use Rattle.gm_file_edit.proofs.AddingCode.{IsOpenTo}
use Rattle.gm_file_edit.proofs.adding.close_index.Given as goal

abbrev pub invariant-loop-n : goal.invariant-loop-n
invariant-loop-n l = IsOpenTo l.lines l.fn.from l.n
