-- Edges by numbers. The number of a vertex is its place in a list of vertices.
use Rattle.std.specs.Prelude.{◌≡◌, ◌<◌, ⊤, ℕ, Bool, All, AllPairs, List, [], Option, None, Some, length, map, slice_index_or}
use Rattle.std.specs.List.{flat_map}
use Rattle.std.specs.Option.{option_cmp}
use Rattle.std.specs.Ordering.{nat_cmp}
use Rattle.std.specs.declared.cmp.Ordering.TheVariants.{Less}
use Rattle.gm_name.specs.ModuleVersion.{ModuleVersion, module_at, pair_cmp}
use Rattle.gm_graph_select.specs.declared.adjacency.Source.{Source}
use Rattle.gm_graph_select.specs.declared.step.Edge.{Edge}
use Rattle.gm_graph_select.specs.declared.step.Step.{Step}
use Rattle.gm_graph_select.specs.declared.step.Step.TheVariants.{Main, Of}
use Rattle.gm_graph_select.specs.Graph.{edge}
use Rattle.gm_graph_select.specs.Order.{IsAscending}
use Rattle.gm_graph_select.specs.StepOrder.{step_eq}

-- the edges that leave one step, by the numbers of the vertices that they lead to
pub record StepEdges : Type 0 where
  pub from : Option ℕ
  pub to : List ℕ

-- the list at a place: there is nothing at a place past the end
abbrev pub list_at : List (List ℕ) → ℕ → List ℕ
list_at lists place = slice_index_or lists place []

-- the edges that leave the step of a source
abbrev pub step_edges : List (List ℕ) → Source → StepEdges
step_edges lists one = record { from = one.from; to = list_at lists one.list }

-- the edges that leave the step of each source
abbrev pub by_step : List (List ℕ) → List Source → List StepEdges
by_step lists sources = map (step_edges lists) sources

-- the step with a number: the main module has none
abbrev pub step_with : List ModuleVersion → Option ℕ → Step
step_with vertices None = Main
step_with vertices (Some number) = Of (module_at vertices number)

-- the step that edges leave
abbrev pub left_by : List ModuleVersion → StepEdges → Step
left_by vertices one = step_with vertices one.from

-- the steps that edges leave
abbrev pub sources_of : List ModuleVersion → List StepEdges → List Step
sources_of vertices all = map (left_by vertices) all

-- the edges that leave one step
abbrev pub edges_from : List ModuleVersion → StepEdges → List Edge
edges_from vertices one = map (λ number. edge (left_by vertices one) (module_at vertices number)) one.to

-- the edges that leave any of these steps
abbrev pub edges_of : List ModuleVersion → List StepEdges → List Edge
edges_of vertices all = flat_map (edges_from vertices) all

-- Whether edges leave the same step.
abbrev pub same_step : List ModuleVersion → StepEdges → StepEdges → Bool
same_step vertices a b = step_eq (left_by vertices a) (left_by vertices b)

-- A number, if there is one, is below this count.
abbrev pub IsBelow : ℕ → Option ℕ → Type 0
IsBelow count None = ⊤
IsBelow count (Some number) = number < count

-- Each number is that of one of so many vertices.
pub record IsNumbered (count : ℕ) (one : StepEdges) : Type 0 where
  pub from : IsBelow count one.from
  pub to : All (λ number. number < count) one.to

-- So is each number of each of these steps.
abbrev pub HaveNumbers : ℕ → List StepEdges → Type 0
HaveNumbers count all = All (IsNumbered count) all

-- ---- ranks

-- Edges leave a lower step than others, if numbers are ranks: the main module comes first.
abbrev pub LeavesLower : StepEdges → StepEdges → Type 0
LeavesLower a b = option_cmp nat_cmp a.from b.from ≡ Less

-- The vertices are in strictly ascending order, and so are the steps that edges leave and the vertices that those of
-- each step lead to: numbers are ranks.
pub record AreRanked (vertices : List ModuleVersion) (all : List StepEdges) : Type 0 where
  pub vertices_ascend : IsAscending pair_cmp vertices
  pub numbered : HaveNumbers (length vertices) all
  pub lists_ascend : AllPairs LeavesLower all
  pub each_ascends : All (λ one. IsAscending nat_cmp one.to) all

-- a module graph, as contracts see it: its vertices, its edges in strictly ascending order, and for each step that
-- edges leave, by its rank, the place of its list, which others may share
pub record GraphView : Type 0 where
  pub vertices : List ModuleVersion
  pub edges : List Edge
  pub sources : List Source
