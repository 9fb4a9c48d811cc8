use Rattle.page_commands.proofs.Chains.{graphs_are_shown}
use Rattle.page_commands.proofs.graphs_are_shown.Goals as goal

pub returns : goal.returns
returns c = graphs_are_shown
