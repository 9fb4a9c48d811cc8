use Rattle.gomod_laws.proofs.CounterGraphs.{chain_is_of_another_graph, list_is_of_another_graph}
use Rattle.gomod_laws.proofs.counterexamples.listings.outputs_can_be_of_two_graphs.Goals as goal

pub returns-clause-list : goal.returns-clause-list
returns-clause-list c = list_is_of_another_graph

pub returns-clause-chain : goal.returns-clause-chain
returns-clause-chain c = chain_is_of_another_graph
