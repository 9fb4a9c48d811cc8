use Rattle.page.proofs.Reported.{sums_are_reported}
use Rattle.page.proofs.sums_are_reported.Goals as goal

pub returns : goal.returns
returns c = sums_are_reported
