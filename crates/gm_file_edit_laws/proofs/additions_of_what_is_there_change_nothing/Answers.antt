use Rattle.gm_file_edit_laws.proofs.EditedDirectives.{idle-addition}
use Rattle.gm_file_edit_laws.proofs.additions_of_what_is_there_change_nothing.Goals as goal

pub returns : goal.returns
returns c = idle-addition
