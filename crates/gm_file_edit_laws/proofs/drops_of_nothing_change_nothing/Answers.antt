use Rattle.gm_file_edit_laws.proofs.EditedDirectives.{idle-drop}
use Rattle.gm_file_edit_laws.proofs.drops_of_nothing_change_nothing.Goals as goal

pub returns : goal.returns
returns c = idle-drop
