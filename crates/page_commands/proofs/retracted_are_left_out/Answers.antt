use Rattle.page_commands.proofs.Versions.{retracted_are_left_out}
use Rattle.page_commands.proofs.retracted_are_left_out.Goals as goal

pub returns : goal.returns
returns c = retracted_are_left_out
