use Rattle.page.proofs.Nothing.{others_have_none}
use Rattle.page.proofs.others_have_none.Goals as goal

pub returns : goal.returns
returns c = others_have_none
