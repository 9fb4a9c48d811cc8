use Rattle.page_commands.proofs.Texts.{hashes_are_told}
use Rattle.page_commands.proofs.hashes_are_told.Goals as goal

pub returns : goal.returns
returns c = hashes_are_told
