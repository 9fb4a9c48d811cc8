use Rattle.page_commands.proofs.Versions.{lists_are_read}
use Rattle.page_commands.proofs.lists_are_read.Goals as goal

pub returns : goal.returns
returns c = lists_are_read
