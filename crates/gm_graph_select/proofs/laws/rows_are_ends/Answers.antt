use Rattle.gm_graph_select.proofs.Lawful as lawful
use Rattle.gm_graph_select.proofs.laws.rows_are_ends.Goals as goal

pub returns : goal.returns
returns g c = lawful.rows_are_ends
