use Rattle.gm_file_edit.proofs.Written.{named-sound}
use Rattle.gm_file_edit.proofs.op.Op.parse.Goals as goal

pub invariant_of-result : goal.invariant_of-result
invariant_of-result c = named-sound _ _ c.in_ok-change.ensures
