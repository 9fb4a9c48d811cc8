use Rattle.gomod_laws.proofs.ExampleOutputs.{input_is_held}
use Rattle.gomod_laws.proofs.example_outputs.input_is_held.Goals as goal

pub returns : goal.returns
returns c = input_is_held
