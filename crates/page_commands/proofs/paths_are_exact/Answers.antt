use Rattle.page_commands.proofs.Single.{paths_are_exact}
use Rattle.page_commands.proofs.paths_are_exact.Goals as goal

pub returns : goal.returns
returns c = paths_are_exact
