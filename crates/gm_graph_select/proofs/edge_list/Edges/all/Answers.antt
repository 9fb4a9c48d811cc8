use Rattle.std.proofs.Common.{◌∙◌, List, ap, length, map}
use Rattle.gm_graph_select.specs.Adjacency.{by_step}
use Rattle.gm_graph_select.specs.EdgeList.{NumberedEdge, edge_with}
use Rattle.gm_graph_select.proofs.EdgeLists.{edges_of-numbered, pairs_below}
use Rattle.gm_graph_select.proofs.edge_list.Edges.all.Goals as goal

pub invariant_of-result : goal.invariant_of-result
invariant_of-result c =
    let count = length c.args.vertices.now in
    rw c.all.ensures
    (pairs_below count (by_step c.args.lists.now c.args.sources.now) c.requires)

pub returns : goal.returns
returns c = ap (λ (pairs : List NumberedEdge). map (edge_with c.args.vertices.now) pairs) c.all.ensures
    ∙ edges_of-numbered c.args.vertices.now (by_step c.args.lists.now c.args.sources.now)
