use Rattle.page_commands.proofs.Edits.{requirements_are_set}
use Rattle.page_commands.proofs.requirements_are_set.Goals as goal

pub returns : goal.returns
returns c = requirements_are_set
