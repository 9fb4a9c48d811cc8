use Rattle.page_commands.proofs.Lines.{lines_are_told}
use Rattle.page_commands.proofs.lines_are_told.Goals as goal

pub returns : goal.returns
returns c = lines_are_told
