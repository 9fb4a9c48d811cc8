use Rattle.gm_graph_files.proofs.OneReading.{one_reading}
use Rattle.gomod_laws.proofs.graphs.replies_say_one_thing.Goals as goal

pub returns : goal.returns
returns c = one_reading
