use Rattle.gm_graph_select.proofs.Lawful as lawful
use Rattle.gm_graph_select.proofs.laws.one_rest.Goals as goal

pub returns : goal.returns
returns g c = lawful.one_rest
