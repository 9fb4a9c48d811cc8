use Rattle.page.proofs.Reported.{empty_main_is_reported}
use Rattle.page.proofs.empty_main_is_reported.Goals as goal

pub returns : goal.returns
returns c = empty_main_is_reported
