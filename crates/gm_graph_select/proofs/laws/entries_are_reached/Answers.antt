use Rattle.gm_graph_select.proofs.Lawful as lawful
use Rattle.gm_graph_select.proofs.laws.entries_are_reached.Goals as goal

pub returns : goal.returns
returns g c = lawful.entries_are_reached
