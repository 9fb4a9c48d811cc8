use Rattle.gm_file_edit_laws.proofs.Additions.{go-follows}
use Rattle.gm_file_edit_laws.proofs.new_go_follows_the_module.Goals as goal

pub returns : goal.returns
returns c = go-follows
