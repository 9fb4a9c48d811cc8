use Rattle.std.proofs.Common.{◌≡◌, [], List, subst}
use Rattle.std.specs.List.Sorted.{IsNonDecreasingBy, IsPartitionPoint}
use Rattle.std.specs.Ordering.{ordering_index}
use Rattle.std.specs.declared.cmp.Ordering.TheVariants.{Less, Greater}
use Rattle.gm_name.specs.ModuleVersion.{ModuleVersion, module_at, pair_cmp}
use Rattle.gm_name.specs.Private.ModuleVersion.{pair-anti}
use Rattle.gm_graph_select.specs.Private.Numbering.{IsGraph}
use Rattle.gm_graph_select.proofs.NumberedSteps.{is_graph, vertex_not_found}
use Rattle.gm_graph_select.proofs.graph.Graph.rank_of.Goals as goal

pub returns-in-Ok-clause-graph : goal.returns-in-Ok-clause-graph
returns-in-Ok-clause-graph c = subst IsGraph c.self.view_is (is_graph c.self.inside.sources.items c.self.invariant)

pub returns-in-Ok-clause-some : goal.returns-in-Ok-clause-some
returns-in-Ok-clause-some c =
    let rank = c.in-Ok.rank in
    rw⁻¹ c.self.view_is
    (rw⁻¹ c.deref.ensures.value
    (c.in-Ok.ensures.bound, pair-anti (module_at c.deref.result.now rank) c.args.vertex.now (c.in-Ok.ensures.ok ([], []))))

pub returns-in-Err-clause-graph : goal.returns-in-Err-clause-graph
returns-in-Err-clause-graph c = subst IsGraph c.self.view_is (is_graph c.self.inside.sources.items c.self.invariant)

pub returns-in-Err-clause-none : goal.returns-in-Err-clause-none
returns-in-Err-clause-none c =
    let x = c.args.vertex.now in
    let i = c.in-Err.field-0 in
    let says = subst (λ (xs : List ModuleVersion). IsNonDecreasingBy
    (λ (y : ModuleVersion). ordering_index (pair_cmp y x)) xs
    → IsPartitionPoint (λ (y : ModuleVersion). pair_cmp y x ≡ Less) (λ (y : ModuleVersion). pair_cmp y x ≡ Greater)
    xs i) c.deref.ensures.value c.in-Err.ensures.position in
    rw⁻¹ c.self.view_is
    (vertex_not_found c.self.inside.vertices.items x i c.self.invariant.vertices_ascend says)
