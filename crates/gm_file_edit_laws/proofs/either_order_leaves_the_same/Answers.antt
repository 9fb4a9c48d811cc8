use Rattle.gm_file_edit_laws.proofs.EitherOrder.{either-order}
use Rattle.gm_file_edit_laws.proofs.either_order_leaves_the_same.Goals as goal

pub returns : goal.returns
returns c = either-order
