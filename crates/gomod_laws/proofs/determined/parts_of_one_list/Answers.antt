use Rattle.gomod_laws.proofs.RunsOnce.{parts_of_one_list}
use Rattle.gomod_laws.proofs.determined.parts_of_one_list.Goals as goal

pub returns : goal.returns
returns c = parts_of_one_list
