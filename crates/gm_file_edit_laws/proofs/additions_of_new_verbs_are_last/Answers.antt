use Rattle.gm_file_edit_laws.proofs.Additions.{addition-last}
use Rattle.gm_file_edit_laws.proofs.additions_of_new_verbs_are_last.Goals as goal

pub returns : goal.returns
returns c = addition-last
