use Rattle.page.proofs.Listed.{main_alone_is_listed}
use Rattle.page.proofs.main_alone_is_listed.Goals as goal

pub returns : goal.returns
returns c = main_alone_is_listed
