use Rattle.gomod_laws.proofs.ContradictedOthers.{formats_another, neither_formats}
use Rattle.gomod_laws.proofs.counterexamples.others.an_undone_operation_can_differ.Goals as goal

pub returns-clause-prints : goal.returns-clause-prints
returns-clause-prints c = formats_another

pub returns-clause-refuses : goal.returns-clause-refuses
returns-clause-refuses c = neither_formats
