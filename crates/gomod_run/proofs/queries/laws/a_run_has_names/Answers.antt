use Rattle.gomod_texts.proofs.RunNames.{run_has_names, run_has_proper_edges, run_has_proper_faults, run_has_proper_rows, run_has_proper_steps}
use Rattle.gomod_run.proofs.queries.laws.a_run_has_names.Goals as goal

pub returns-clause-names : goal.returns-clause-names
returns-clause-names c = run_has_names

pub returns-clause-rows : goal.returns-clause-rows
returns-clause-rows c = run_has_proper_rows

pub returns-clause-edges : goal.returns-clause-edges
returns-clause-edges c = run_has_proper_edges

pub returns-clause-steps : goal.returns-clause-steps
returns-clause-steps c = run_has_proper_steps

pub returns-clause-faults : goal.returns-clause-faults
returns-clause-faults c = run_has_proper_faults
