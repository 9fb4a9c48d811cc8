use Rattle.page.proofs.Reported.{fork_is_reported}
use Rattle.page.proofs.fork_is_reported.Goals as goal

pub returns : goal.returns
returns c = fork_is_reported
