use Rattle.gomod_laws.proofs.ExampleFiles.{files_are_read}
use Rattle.gomod_laws.proofs.example_world.files_are_read.Goals as goal

pub returns : goal.returns
returns c = files_are_read
