use Rattle.page_commands.proofs.Formats.{lines_are_laid_out}
use Rattle.page_commands.proofs.lines_are_laid_out.Goals as goal

pub returns : goal.returns
returns c = lines_are_laid_out
