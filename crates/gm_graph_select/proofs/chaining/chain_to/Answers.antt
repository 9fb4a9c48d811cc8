use Rattle.gm_graph_select.specs.Chains.{begins}
use Rattle.gm_graph_select.proofs.BreadthFirst.{main_step, no_vertex}
use Rattle.gm_graph_select.proofs.chaining.chain_to.Goals as goal

pub returns-in_default-clause-chain : goal.returns-in_default-clause-chain
returns-in_default-clause-chain c =
    let edges = c.args.graph.now.edges in
    rw (main_step c.args.last.now c.in_default.not-Of)
    (rw c.in_ok-vec.ensures.items begins)

pub returns-in_default-rank_of-clause-none : goal.returns-in_default-rank_of-clause-none
returns-in_default-rank_of-clause-none c =
    rw c.in-Of.is
    (no_vertex c.args.graph.now c.in-Of.goal c.in_default-rank_of.ensures.graph c.in_default-rank_of.ensures.none)
