use Rattle.gomod_laws.proofs.ContradictedFaults.{fault_is_excluded}
use Rattle.gomod_laws.proofs.counterexamples.queries.a_report_can_contradict.Goals as goal

pub returns : goal.returns
returns c = fault_is_excluded
