use Rattle.gomod_run.proofs.Answered.{nothing_is_printed}
use Rattle.gomod_run.proofs.laws.nothing_printed.Goals as goal

pub returns : goal.returns
returns c = nothing_is_printed
