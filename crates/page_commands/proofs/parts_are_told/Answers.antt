use Rattle.page_commands.proofs.Texts.{parts_are_told}
use Rattle.page_commands.proofs.parts_are_told.Goals as goal

pub returns : goal.returns
returns c = parts_are_told
