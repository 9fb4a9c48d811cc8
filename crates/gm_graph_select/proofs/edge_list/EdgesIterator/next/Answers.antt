use Rattle.std.proofs.Common.{[], ◌∷◌, ◌∙◌, List, ap, ap₂, length, map, sym}
use Rattle.std.proofs.lemmas.List.{get_or_default}
use Rattle.gm_graph_select.specs.declared.step.Edge.{Edge}
use Rattle.gm_graph_select.specs.EdgeList.{NumberedEdge, edge_with}
use Rattle.gm_graph_select.specs.Graph.{edge}
use Rattle.gm_graph_select.proofs.EdgeLists.{next_below}
use Rattle.gm_graph_select.proofs.edge_list.EdgesIterator.next.Goals as goal

pub vertex_with-requires : goal.vertex_with-requires
vertex_with-requires c =
    (next_below (length c.self.inside.vertices.now) c.self.inside.pairs (c.in_ok-from.from, c.in_ok-from.to)
    c.next.new.self c.in_ok-from.ensures.steps c.self.invariant).0

pub bounds-self-inside-to : goal.bounds-self-inside-to
bounds-self-inside-to c =
    (next_below (length c.self.inside.vertices.now) c.self.inside.pairs (c.in_ok-from.from, c.in_ok-from.to)
    c.next.new.self c.in_ok-from.ensures.steps c.self.invariant).1

pub invariant_of-self-2 : goal.invariant_of-self-2
invariant_of-self-2 c =
    (next_below (length c.self.inside.vertices.now) c.self.inside.pairs (c.in_ok-from.from, c.in_ok-from.to)
    c.next.new.self c.in_ok-from.ensures.steps c.self.invariant).2

pub returns-clause-steps : goal.returns-clause-steps
returns-clause-steps c =
    let vertices = c.self.inside.vertices.now in
    let below = next_below (length vertices) c.self.inside.pairs (c.in_ok-from.from, c.in_ok-from.to) c.next.new.self
    c.in_ok-from.ensures.steps c.self.invariant in
    sym c.self.view_is
    ∙ ap (λ (pairs : List NumberedEdge). map (edge_with vertices) pairs) c.in_ok-from.ensures.steps
    ∙ ap (λ (e : Edge). e ∷ map (edge_with vertices) c.next.new.self)
    (ap₂ edge (sym c.vertex_with.ensures) (get_or_default vertices c.in_ok-from.to ([], []) c.index-self-to.result below.1))
