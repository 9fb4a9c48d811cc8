use Rattle.page.proofs.Many.{too_many_are_reported}
use Rattle.page.proofs.too_many_are_reported.Goals as goal

pub returns : goal.returns
returns c = too_many_are_reported
