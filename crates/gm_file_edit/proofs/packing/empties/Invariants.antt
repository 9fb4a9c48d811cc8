use Rattle.std.proofs.Common.{◌≡◌, drop, false}
use Rattle.gm_file_edit.specs.Fates.{empties}
use Rattle.gm_file_edit.specs.Private.Marks.{fates_of}
use Rattle.gm_file_edit.proofs.packing.empties.Given as goal

abbrev pub invariant-loop-n : goal.invariant-loop-n
invariant-loop-n l = empties l.lost (fates_of (drop l.n l.marks) (drop l.n l.lines))
    ≡ empties false (fates_of (drop l.fn.from l.marks) (drop l.fn.from l.lines))
