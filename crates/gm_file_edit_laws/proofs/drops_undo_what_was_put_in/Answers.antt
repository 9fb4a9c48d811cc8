use Rattle.gm_file_edit_laws.proofs.UndoingDrops.{drop-undoes}
use Rattle.gm_file_edit_laws.proofs.drops_undo_what_was_put_in.Goals as goal

pub returns : goal.returns
returns c = drop-undoes
