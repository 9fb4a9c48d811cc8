use Rattle.gomod_laws.proofs.ExampleOutputs.{file_is_read}
use Rattle.gomod_laws.proofs.example_outputs.file_is_read.Goals as goal

pub returns : goal.returns
returns c = file_is_read
