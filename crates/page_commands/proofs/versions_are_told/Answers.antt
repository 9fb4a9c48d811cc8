use Rattle.page_commands.proofs.Texts.{versions_are_told}
use Rattle.page_commands.proofs.versions_are_told.Goals as goal

pub returns : goal.returns
returns c = versions_are_told
