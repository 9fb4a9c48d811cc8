-- Edges lead to each vertex that is left, and so the vertices of the graph are those that edges lead to.
use Rattle.std.proofs.Common.{◌↔◌, ◌⊎◌, ℕ, List, Contains, inl, inr}
use Rattle.gm_name.specs.ModuleVersion.{ModuleVersion}
use Rattle.gm_graph_select.specs.declared.step.Edge.{Edge}
use Rattle.gm_graph_select.specs.declared.step.Step.{Step}
use Rattle.gm_graph_select.specs.declared.step.Step.TheVariants.{Of}
use Rattle.gm_graph_select.specs.Chains.{Leads, along}
use Rattle.gm_graph_select.specs.Graph.{AreEnds, IsEdgeEnd, among, edge}
use Rattle.gm_graph_select.specs.Order.{HaveSame}
use Rattle.gm_graph.specs.Run.{IsEdge, IsOpened, IsVertex}
use Rattle.gm_graph_cache.specs.Sayings.{Run}
use Rattle.gm_graph.proofs.Rooted.{opened_reached}

module _ (run : Run) where
  last_edge : {x : ModuleVersion} {n : ℕ} → Leads (IsEdge run) (Of x) n → IsVertex run x
  last_edge (along {s} leads e) = (s, e)

  -- An edge of the list of all edges leads to an opened vertex.
  pub opened_among : (edges : List Edge) → ((e : Edge) → Contains edges e ↔ IsEdge run e.from e.to)
      → (x : ModuleVersion) → IsOpened run x → IsEdgeEnd (among edges) x
  opened_among edges exact x opened = let end = last_edge (opened_reached run x opened).1 in (end.0, (exact (edge end.0 x)).1 end.1)

-- If edges lead to each vertex that is left, the vertices that edges lead to or that are left are those that edges lead to.
pub ends_are : (vertices : List ModuleVersion) (sources : List Step) (old new : List Edge) → HaveSame old new
    → ((x : ModuleVersion) → Contains vertices x ↔ (IsEdgeEnd (among new) x ⊎ Contains sources (Of x)))
    → ((x : ModuleVersion) → Contains sources (Of x) → IsEdgeEnd (among old) x) → AreEnds vertices (among new)
ends_are vertices sources old new same are left x = (
  (λ h. elim ((are x).0 h) [
    | inl end ↦ end
    | inr source ↦ (let end = left x source in (end.0, (same (edge end.0 x)).0 end.1))
  ]),
  (λ end. (are x).1 (inl end)),
)
