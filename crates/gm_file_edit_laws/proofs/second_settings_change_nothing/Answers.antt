use Rattle.gm_file_edit_laws.proofs.SecondOperations.{second-setting}
use Rattle.gm_file_edit_laws.proofs.second_settings_change_nothing.Goals as goal

pub returns : goal.returns
returns c = second-setting
