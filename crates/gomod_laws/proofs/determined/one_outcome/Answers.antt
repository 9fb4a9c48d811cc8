use Rattle.gomod_laws.proofs.RunsOnce.{one_outcome}
use Rattle.gomod_laws.proofs.determined.one_outcome.Goals as goal

pub returns : goal.returns
returns c = one_outcome
