use Rattle.gomod_run.proofs.GraphLines.{line_is_of_an_edge, graph_has_lines, says_edge, text_says_edges}
use Rattle.gomod_run.proofs.queries.laws.a_graph_says_its_edges.Goals as goal

pub returns-clause-lines : goal.returns-clause-lines
returns-clause-lines c = graph_has_lines

pub returns-clause-edge : goal.returns-clause-edge
returns-clause-edge c = says_edge

pub returns-clause-text : goal.returns-clause-text
returns-clause-text c = text_says_edges

pub returns-clause-found : goal.returns-clause-found
returns-clause-found c = line_is_of_an_edge
