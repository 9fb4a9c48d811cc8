use Rattle.gomod_laws.proofs.ExampleEnds.{required_is_asked}
use Rattle.gomod_laws.proofs.example_world.required_is_asked.Goals as goal

pub returns : goal.returns
returns c = required_is_asked
