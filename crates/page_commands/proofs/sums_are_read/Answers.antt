use Rattle.page_commands.proofs.Sums.{sums_are_read}
use Rattle.page_commands.proofs.sums_are_read.Goals as goal

pub returns : goal.returns
returns c = sums_are_read
