use Rattle.gomod_laws.proofs.ExampleEnds.{empty_is_refused, is_listed_alone}
use Rattle.gomod_laws.proofs.example_world.one_is_listed.Goals as goal

pub returns-clause-alone : goal.returns-clause-alone
returns-clause-alone c = is_listed_alone

pub returns-clause-empty : goal.returns-clause-empty
returns-clause-empty c = empty_is_refused
