use Rattle.std.proofs.Common.{subst, sym}
use Rattle.gm_graph_select.specs.Adjacency.{GraphView}
use Rattle.gm_graph_select.specs.Graph.{AreEnds, among}
use Rattle.gm_graph_select.proofs.LastVersions.{are_selected}
use Rattle.gm_graph_select.proofs.graph.Graph.selected.Goals as goal

pub returns : goal.returns
returns c = λ given are.
    let main = c.args.main.now in
    let all = c.self.inside.vertices.items in
    let edges = among given in
    rw c.among.ensures
    (rw c.deref.ensures.value
    (are_selected main all c.self.invariant.vertices_ascend edges (subst (λ (g : GraphView). AreEnds g.vertices edges) (sym c.self.view_is) are)))
