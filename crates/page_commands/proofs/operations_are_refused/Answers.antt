use Rattle.page_commands.proofs.Edits.{operations_are_refused}
use Rattle.page_commands.proofs.operations_are_refused.Goals as goal

pub returns : goal.returns
returns c = operations_are_refused
