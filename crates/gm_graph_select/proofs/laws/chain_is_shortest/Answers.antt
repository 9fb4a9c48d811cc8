use Rattle.gm_graph_select.proofs.Lawful as lawful
use Rattle.gm_graph_select.proofs.laws.chain_is_shortest.Goals as goal

pub returns : goal.returns
returns c = lawful.chain_is_shortest
