use Rattle.page_commands.proofs.Edits.{directives_are_reported}
use Rattle.page_commands.proofs.directives_are_reported.Goals as goal

pub returns : goal.returns
returns c = directives_are_reported
