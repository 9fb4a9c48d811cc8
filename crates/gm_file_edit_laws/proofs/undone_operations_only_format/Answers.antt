use Rattle.gm_file_edit_laws.proofs.UndoingDrops.{drop-undoes-layout}
use Rattle.gm_file_edit_laws.proofs.undone_operations_only_format.Goals as goal

pub returns : goal.returns
returns c = drop-undoes-layout
