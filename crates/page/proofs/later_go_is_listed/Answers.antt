use Rattle.page.proofs.Listed.{later_go_is_listed}
use Rattle.page.proofs.later_go_is_listed.Goals as goal

pub returns : goal.returns
returns c = later_go_is_listed
