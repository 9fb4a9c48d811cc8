use Rattle.gomod_laws.proofs.SumsOutcomes.{right_sums_change_nothing}
use Rattle.gomod_laws.proofs.sums.right_sums_change_nothing.Goals as goal

pub returns : goal.returns
returns c = right_sums_change_nothing
