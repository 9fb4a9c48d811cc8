use Rattle.page_commands.proofs.Edits.{replaces_are_reported}
use Rattle.page_commands.proofs.replaces_are_reported.Goals as goal

pub returns : goal.returns
returns c = replaces_are_reported
