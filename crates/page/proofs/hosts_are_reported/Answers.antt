use Rattle.page.proofs.Reported.{hosts_are_reported}
use Rattle.page.proofs.hosts_are_reported.Goals as goal

pub returns : goal.returns
returns c = hosts_are_reported
