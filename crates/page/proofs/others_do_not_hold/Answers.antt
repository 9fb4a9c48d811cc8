use Rattle.page.proofs.Others.{others_do_not_hold}
use Rattle.page.proofs.others_do_not_hold.Goals as goal

pub returns : goal.returns
returns c = others_do_not_hold
