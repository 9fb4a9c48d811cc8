use Rattle.gomod_laws.proofs.ExampleOutputs.{words_are_given}
use Rattle.gomod_laws.proofs.example_outputs.words_are_given.Goals as goal

pub returns : goal.returns
returns c = words_are_given
