use Rattle.gomod_laws.proofs.GraphLawProofs.{modules_say_one_thing}
use Rattle.gomod_laws.proofs.graphs.modules_say_one_thing.Goals as goal

pub returns : goal.returns
returns c = modules_say_one_thing
