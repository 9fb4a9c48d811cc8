use Rattle.gm_file_edit_laws.proofs.EditedDirectives.{second-drop}
use Rattle.gm_file_edit_laws.proofs.second_drops_change_nothing.Goals as goal

pub returns : goal.returns
returns c = second-drop
