use Rattle.page_commands.proofs.Single.{needs_are_exact}
use Rattle.page_commands.proofs.needs_are_exact.Goals as goal

pub returns : goal.returns
returns c = needs_are_exact
