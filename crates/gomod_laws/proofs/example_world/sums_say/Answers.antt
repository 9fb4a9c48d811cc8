use Rattle.gomod_laws.proofs.ExampleSums.{sums_say}
use Rattle.gomod_laws.proofs.example_world.sums_say.Goals as goal

pub returns : goal.returns
returns c = sums_say
