use Rattle.page_commands.proofs.Texts.{paths_are_told}
use Rattle.page_commands.proofs.paths_are_told.Goals as goal

pub returns : goal.returns
returns c = paths_are_told
