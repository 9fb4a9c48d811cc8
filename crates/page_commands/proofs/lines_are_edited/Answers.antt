use Rattle.page_commands.proofs.Lines.{lines_are_edited}
use Rattle.page_commands.proofs.lines_are_edited.Goals as goal

pub returns : goal.returns
returns c = lines_are_edited
