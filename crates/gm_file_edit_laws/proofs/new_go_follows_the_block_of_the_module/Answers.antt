use Rattle.gm_file_edit_laws.proofs.Additions.{go-follows-block}
use Rattle.gm_file_edit_laws.proofs.new_go_follows_the_block_of_the_module.Goals as goal

pub returns : goal.returns
returns c = go-follows-block
