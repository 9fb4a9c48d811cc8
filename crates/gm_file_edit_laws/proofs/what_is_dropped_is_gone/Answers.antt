use Rattle.gm_file_edit_laws.proofs.EditedDirectives.{dropped-is-gone}
use Rattle.gm_file_edit_laws.proofs.what_is_dropped_is_gone.Goals as goal

pub returns : goal.returns
returns c = dropped-is-gone
