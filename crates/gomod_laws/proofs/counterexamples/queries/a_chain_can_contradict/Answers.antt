use Rattle.gomod_laws.proofs.Contradicted.{step_is_excluded}
use Rattle.gomod_laws.proofs.counterexamples.queries.a_chain_can_contradict.Goals as goal

pub returns : goal.returns
returns c = step_is_excluded
