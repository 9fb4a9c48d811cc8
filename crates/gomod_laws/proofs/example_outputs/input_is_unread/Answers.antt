use Rattle.gomod_laws.proofs.ExampleOutputs.{input_is_unread}
use Rattle.gomod_laws.proofs.example_outputs.input_is_unread.Goals as goal

pub returns : goal.returns
returns c = input_is_unread
