use Rattle.std.proofs.Common.{arith}
use Rattle.gm_graph_select.specs.Adjacency.{by_step}
use Rattle.gm_graph_select.specs.Spans.{lists_at}
use Rattle.gm_graph_select.proofs.RankedLists.{ranked_edges_ascend}
use Rattle.gm_graph_select.proofs.Vertices.{IsGraphOf, is_graph_of}
use Rattle.gm_graph_select.proofs.graph.Graph.new.Goals as goal

pub invariant_of-result : goal.invariant_of-result
invariant_of-result c =
    let made = is_graph_of c.by_ranks-lists.result
    c.new-lists.ensures c.deref.ensures.value c.deref-2.ensures.value c.deref-3.ensures.value c.deref-4.ensures.value
    (omega (arith, c.in_ok-is_vertex.ensures.count, c.len.ensures, c.args.modules.ok)) c.in_ok-is_vertex.ensures.marks
    c.in_ok-ranking.ensures.vertices c.in_ok-ranking.ensures.ascending c.in_ok-ranking.ensures.ranks
    c.by_ranks-lists.ensures c.sources_by_ranks-sources.ensures.permutation c.sources_by_ranks-sources.ensures.sorted c.requires.once in
    made.ranked

-- what is returned is the graph of the edges by their numbers
made : (c : goal.After-drop-is_vertex-2)
    → IsGraphOf c.args.modules.items (by_step (lists_at c.args.numbers.items c.args.spans.items) c.args.sources.items)
    c.in_ok-ranking.ranking.vertices.items (by_step c.by_ranks-lists.result c.sources_by_ranks-sources.result.items)
made c =
    is_graph_of c.by_ranks-lists.result c.new-lists.ensures c.deref.ensures.value c.deref-2.ensures.value c.deref-3.ensures.value
    c.deref-4.ensures.value
    (omega (arith, c.in_ok-is_vertex.ensures.count, c.len.ensures, c.args.modules.ok)) c.in_ok-is_vertex.ensures.marks
    c.in_ok-ranking.ensures.vertices c.in_ok-ranking.ensures.ascending c.in_ok-ranking.ensures.ranks
    c.by_ranks-lists.ensures c.sources_by_ranks-sources.ensures.permutation c.sources_by_ranks-sources.ensures.sorted c.requires.once

pub returns-clause-vertices : goal.returns-clause-vertices
returns-clause-vertices c = (made c).vertices_are

pub returns-clause-edges : goal.returns-clause-edges
returns-clause-edges c = (made c).edges_are

pub returns-clause-ascending : goal.returns-clause-ascending
returns-clause-ascending c =
    ranked_edges_ascend c.in_ok-ranking.ranking.vertices.items (by_step c.by_ranks-lists.result c.sources_by_ranks-sources.result.items)
    (made c).ranked
