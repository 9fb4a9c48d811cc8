use Rattle.page_commands.proofs.Chains.{levels_are_least}
use Rattle.page_commands.proofs.levels_are_least.Goals as goal

pub returns : goal.returns
returns c = levels_are_least
