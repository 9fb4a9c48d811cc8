use Rattle.page.proofs.Listed.{fork_is_listed}
use Rattle.page.proofs.fork_is_listed.Goals as goal

pub returns : goal.returns
returns c = fork_is_listed
