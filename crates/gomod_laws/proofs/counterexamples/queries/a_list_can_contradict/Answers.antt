use Rattle.gomod_laws.proofs.Contradicted.{arrow_at_path_is_missing, arrow_is_missing, row_is_excluded}
use Rattle.gomod_laws.proofs.counterexamples.queries.a_list_can_contradict.Goals as goal

pub returns-clause-excluded : goal.returns-clause-excluded
returns-clause-excluded c = row_is_excluded

pub returns-clause-arrow : goal.returns-clause-arrow
returns-clause-arrow c = arrow_is_missing

pub returns-clause-arrow_at_path : goal.returns-clause-arrow_at_path
returns-clause-arrow_at_path c = arrow_at_path_is_missing
