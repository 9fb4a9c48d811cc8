use Rattle.page_commands.proofs.Edits.{directives_are_dropped}
use Rattle.page_commands.proofs.directives_are_dropped.Goals as goal

pub returns : goal.returns
returns c = directives_are_dropped
