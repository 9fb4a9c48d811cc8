use Rattle.gomod_laws.proofs.ExampleEnds.{bad_sum_is_refused}
use Rattle.gomod_laws.proofs.example_world.bad_sum_is_refused.Goals as goal

pub returns : goal.returns
returns c = bad_sum_is_refused
