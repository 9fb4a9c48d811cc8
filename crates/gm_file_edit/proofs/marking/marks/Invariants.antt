use Rattle.gm_file_edit.specs.Sound.{edit_of}
use Rattle.gm_file_edit.proofs.Marks.{AreMarkedTo}
use Rattle.gm_file_edit.proofs.marking.marks.Given as goal

abbrev pub invariant-loop-n : goal.invariant-loop-n
invariant-loop-n l = AreMarkedTo (edit_of l.change) l.lines l.n l.marks.items
