use Rattle.gm_file_edit_laws.proofs.EditedDirectives.{set-stands-alone}
use Rattle.gm_file_edit_laws.proofs.what_is_set_stands_alone.Goals as goal

pub returns : goal.returns
returns c = set-stands-alone
