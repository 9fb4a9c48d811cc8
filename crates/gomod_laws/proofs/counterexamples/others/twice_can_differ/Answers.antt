use Rattle.gomod_laws.proofs.ContradictedOthers.{twice_is_refused, twice_prints_another}
use Rattle.gomod_laws.proofs.counterexamples.others.twice_can_differ.Goals as goal

pub returns-clause-prints : goal.returns-clause-prints
returns-clause-prints c = twice_prints_another

pub returns-clause-refuses : goal.returns-clause-refuses
returns-clause-refuses c = twice_is_refused
