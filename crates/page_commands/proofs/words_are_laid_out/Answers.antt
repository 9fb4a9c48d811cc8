use Rattle.page_commands.proofs.Formats.{words_are_laid_out}
use Rattle.page_commands.proofs.words_are_laid_out.Goals as goal

pub returns : goal.returns
returns c = words_are_laid_out
