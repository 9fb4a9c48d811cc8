use Rattle.gm_file_edit_laws.proofs.EditedDirectives.{others-stay}
use Rattle.gm_file_edit_laws.proofs.other_directives_stay.Goals as goal

pub returns : goal.returns
returns c = others-stay
