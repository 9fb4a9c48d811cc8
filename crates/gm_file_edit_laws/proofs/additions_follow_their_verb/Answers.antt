use Rattle.gm_file_edit_laws.proofs.Additions.{addition-follows}
use Rattle.gm_file_edit_laws.proofs.additions_follow_their_verb.Goals as goal

pub returns : goal.returns
returns c = addition-follows
