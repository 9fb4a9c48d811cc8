use Rattle.gm_graph_select.proofs.Lawful as lawful
use Rattle.gm_graph_select.proofs.laws.pages_join.Goals as goal

pub returns-clause-join : goal.returns-clause-join
returns-clause-join g c = lawful.pages_join

pub returns-clause-exist : goal.returns-clause-exist
returns-clause-exist g c = lawful.pages_exist
