use Rattle.gm_graph_select.proofs.Inserting.{some_build_list}
use Rattle.gm_graph_select.proofs.Lawful as lawful
use Rattle.gm_graph_select.proofs.laws.one_build_list.Goals as goal

pub returns-clause-unique : goal.returns-clause-unique
returns-clause-unique g c = lawful.one_build_list

pub returns-clause-exist : goal.returns-clause-exist
returns-clause-exist g c = some_build_list
