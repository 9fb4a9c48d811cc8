use Rattle.page.proofs.Reported.{unfetchable_is_reported}
use Rattle.page.proofs.unfetchable_is_reported.Goals as goal

pub returns : goal.returns
returns c = unfetchable_is_reported
