-- Numbers for the steps of a module graph: 0 for the main module, and for each vertex one more than its rank.
use Rattle.std.specs.Prelude.{◌≡◌, ◌↔◌, ◌<◌, ◌+◌, ℕ, All, Contains, List, ◌∷◌, length, map, slice_index_or}
use Rattle.std.specs.Option.{option_map_or}
use Rattle.gm_name.specs.ModuleVersion.{ModuleVersion, module_at, pair_cmp}
use Rattle.gm_graph_select.specs.declared.adjacency.Source.{Source}
use Rattle.gm_graph_select.specs.declared.step.Edge.{Edge}
use Rattle.gm_graph_select.specs.declared.step.Step.{Step}
use Rattle.gm_graph_select.specs.declared.step.Step.TheVariants.{Main, Of}
use Rattle.gm_graph_select.specs.Adjacency.{GraphView}
use Rattle.gm_graph_select.specs.Graph.{among}
use Rattle.gm_graph_select.specs.Order.{IsAscending}

-- the steps, by number
abbrev pub steps_of : GraphView → List Step
steps_of graph = Main ∷ map Of graph.vertices

-- the step with a number: the main module if there is none
abbrev pub step_at : List Step → ℕ → Step
step_at steps number = slice_index_or steps number Main

-- The vertices are in strictly ascending order, and edges lead from the main module and the vertices to vertices.
pub record IsGraph (graph : GraphView) : Type 0 where
  pub ascending : IsAscending pair_cmp graph.vertices
  pub left : (e : Edge) → Contains graph.edges e → Contains (steps_of graph) e.from
  pub ends : (e : Edge) → Contains graph.edges e → Contains graph.vertices e.to

-- the number of the step that is a source: the main module has no rank
abbrev pub number_left : Source → ℕ
number_left one = option_map_or (λ rank. rank + 1) one.from 0

-- These are the ranks of the vertices that edges lead to from the step with a number.
pub record AreLeaving (graph : GraphView) (number : ℕ) (ranks : List ℕ) : Type 0 where
  pub within : All (λ rank. rank < length graph.vertices) ranks
  pub each : (y : ModuleVersion) → Contains (map (module_at graph.vertices) ranks) y
      ↔ among graph.edges (step_at (steps_of graph) number) y

-- The list at this place is that of the step with a number.
abbrev pub HasList : GraphView → ℕ → ℕ → Type 0
HasList graph number list = (one : Source) × Contains graph.sources one × (number_left one ≡ number)
    × (one.list ≡ list)

-- For each step whose list is at this place, these are the ranks of the vertices that edges lead to from it.
abbrev pub AreInList : GraphView → ℕ → List ℕ → Type 0
AreInList graph list ranks = (number : ℕ) → number < length (steps_of graph) → HasList graph number list
    → AreLeaving graph number ranks
