use Rattle.page_commands.proofs.Chains.{chains_are_shown}
use Rattle.page_commands.proofs.chains_are_shown.Goals as goal

pub returns : goal.returns
returns c = chains_are_shown
