use Rattle.gomod_laws.proofs.SumsOutcomes.{only_refuses}
use Rattle.gomod_laws.proofs.sums.only_refuses.Goals as goal

pub returns : goal.returns
returns c = only_refuses
