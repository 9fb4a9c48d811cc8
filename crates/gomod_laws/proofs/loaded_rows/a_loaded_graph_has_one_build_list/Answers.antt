use Rattle.gm_graph_select.proofs.Inserting.{some_build_list}
use Rattle.gm_graph_select.proofs.Lawful as lawful
use Rattle.gomod_laws.proofs.loaded_rows.a_loaded_graph_has_one_build_list.Goals as goal

pub returns-clause-ends : goal.returns-clause-ends
returns-clause-ends c = lawful.rows_are_ends

pub returns-clause-satisfy : goal.returns-clause-satisfy
returns-clause-satisfy c = lawful.rows_satisfy

pub returns-clause-unique : goal.returns-clause-unique
returns-clause-unique c = lawful.one_build_list

pub returns-clause-exist : goal.returns-clause-exist
returns-clause-exist c = some_build_list

pub returns-clause-rest : goal.returns-clause-rest
returns-clause-rest c = lawful.one_rest

pub returns-clause-join : goal.returns-clause-join
returns-clause-join c = lawful.pages_join

pub returns-clause-pages : goal.returns-clause-pages
returns-clause-pages c = lawful.pages_exist

pub returns-clause-main_is_first : goal.returns-clause-main_is_first
returns-clause-main_is_first c = lawful.main_is_first

pub returns-clause-reached : goal.returns-clause-reached
returns-clause-reached c = lawful.entries_are_reached
