use Rattle.page_commands.proofs.Formats.{syntax_is_reported}
use Rattle.page_commands.proofs.syntax_is_reported.Goals as goal

pub returns : goal.returns
returns c = syntax_is_reported
