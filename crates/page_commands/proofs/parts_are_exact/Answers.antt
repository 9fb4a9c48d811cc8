use Rattle.page_commands.proofs.Single.{parts_are_exact}
use Rattle.page_commands.proofs.parts_are_exact.Goals as goal

pub returns : goal.returns
returns c = parts_are_exact
