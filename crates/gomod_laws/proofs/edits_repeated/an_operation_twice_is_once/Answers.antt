use Rattle.gomod_laws.proofs.EditTwice.{last_twice_is_once, twice_is_once_or_refused, twice_prints_as_once}
use Rattle.gomod_laws.proofs.edits_repeated.an_operation_twice_is_once.Goals as goal

pub returns-clause-prints : goal.returns-clause-prints
returns-clause-prints c = twice_prints_as_once

pub returns-clause-last : goal.returns-clause-last
returns-clause-last c = last_twice_is_once

pub returns-clause-numbers : goal.returns-clause-numbers
returns-clause-numbers c = twice_is_once_or_refused
