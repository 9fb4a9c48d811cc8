use Rattle.gm_graph_select.proofs.Lawful as lawful
use Rattle.gm_graph_select.proofs.laws.rows_satisfy.Goals as goal

pub returns : goal.returns
returns g c = lawful.rows_satisfy
