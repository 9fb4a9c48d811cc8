use Rattle.gm_graph_select.proofs.Lawful as lawful
use Rattle.gm_graph_select.proofs.laws.one_chain.Goals as goal

pub returns : goal.returns
returns c = lawful.one_chain
