use Rattle.gm_file_edit.proofs.AddingCode.{IsUnmetTo}
use Rattle.gm_file_edit.proofs.adding.go_index.Given as goal

abbrev pub invariant-loop-n : goal.invariant-loop-n
invariant-loop-n l = IsUnmetTo l.lines l.n
