use Rattle.gomod_run.proofs.Answered.{version_is_printed}
use Rattle.gomod_run.proofs.laws.version_printed.Goals as goal

pub returns : goal.returns
returns c = version_is_printed
