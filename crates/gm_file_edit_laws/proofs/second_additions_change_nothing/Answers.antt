use Rattle.gm_file_edit_laws.proofs.EditedDirectives.{second-addition}
use Rattle.gm_file_edit_laws.proofs.second_additions_change_nothing.Goals as goal

pub returns : goal.returns
returns c = second-addition
