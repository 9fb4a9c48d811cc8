use Rattle.gm_graph_select.proofs.Lawful as lawful
use Rattle.gm_graph_select.proofs.laws.main_is_first.Goals as goal

pub returns : goal.returns
returns g c = lawful.main_is_first
