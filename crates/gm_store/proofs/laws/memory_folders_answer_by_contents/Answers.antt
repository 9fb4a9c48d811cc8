use Rattle.gm_store.proofs.Stops.{held_stop}
use Rattle.gm_store.proofs.laws.memory_folders_answer_by_contents.Goals as goal

pub returns : goal.returns
returns c = held_stop
