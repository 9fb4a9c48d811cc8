use Rattle.page_commands.proofs.Texts.{names_are_told}
use Rattle.page_commands.proofs.names_are_told.Goals as goal

pub returns : goal.returns
returns c = names_are_told
