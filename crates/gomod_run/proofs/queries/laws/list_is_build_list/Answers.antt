use Rattle.gomod_run.proofs.GreatestRows.{build_list_is_listed}
use Rattle.gomod_texts.proofs.PrintedList.{list_is_build_list}
use Rattle.gomod_run.proofs.queries.laws.list_is_build_list.Goals as goal

pub returns-clause-prints : goal.returns-clause-prints
returns-clause-prints c = list_is_build_list

pub returns-clause-printed : goal.returns-clause-printed
returns-clause-printed c = build_list_is_listed
