use Rattle.gomod_laws.proofs.ExampleOutputs.{end_is_stated}
use Rattle.gomod_laws.proofs.example_outputs.output_is_written.Goals as goal

pub returns-clause-stated : goal.returns-clause-stated
returns-clause-stated c = end_is_stated
