use Rattle.gm_file_edit_laws.proofs.EditedDirectives.{added-is-there}
use Rattle.gm_file_edit_laws.proofs.what_is_added_is_there.Goals as goal

pub returns : goal.returns
returns c = added-is-there
