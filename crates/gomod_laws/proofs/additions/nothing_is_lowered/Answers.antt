use Rattle.gomod_laws.proofs.AdditionsPrinted.{graph_keeps_lines, list_lowers_nothing}
use Rattle.gomod_laws.proofs.additions.nothing_is_lowered.Goals as goal

pub returns-clause-list : goal.returns-clause-list
returns-clause-list c = list_lowers_nothing

pub returns-clause-graph : goal.returns-clause-graph
returns-clause-graph c = graph_keeps_lines
