use Rattle.gomod_laws.proofs.RunsOnce.{graph_refused, one_graph}
use Rattle.gomod_laws.proofs.determined.one_graph.Goals as goal

pub returns-clause-graph : goal.returns-clause-graph
returns-clause-graph c = one_graph

pub returns-clause-refusal : goal.returns-clause-refusal
returns-clause-refusal c = graph_refused
