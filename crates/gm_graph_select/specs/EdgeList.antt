-- The edges that leave steps, one after the other.
use Rattle.std.specs.Prelude.{◌<◌, ℕ, Option, None, Some, List}
use Rattle.std.specs.Borrow.{Bor}
use Rattle.gm_name.specs.ModuleVersion.{ModuleVersion, module_at}
use Rattle.gm_graph_select.specs.declared.edge_list.EdgeRef.{EdgeRef}
use Rattle.gm_graph_select.specs.declared.step.Edge.{Edge}
use Rattle.gm_graph_select.specs.declared.step.Step.{Step}
use Rattle.gm_graph_select.specs.declared.step.Step.TheVariants.{Main, Of}
use Rattle.gm_graph_select.specs.Adjacency.{IsBelow, step_with}
use Rattle.gm_graph_select.specs.Graph.{edge}

-- an edge by the numbers of its ends
abbrev pub NumberedEdge : Type 0
NumberedEdge = Option ℕ × ℕ

-- the edge between the steps with these numbers
abbrev pub edge_with : List ModuleVersion → NumberedEdge → Edge
edge_with vertices pair = edge (step_with vertices pair.0) (module_at vertices pair.1)

-- Both numbers are below this count.
abbrev pub AreEndsBelow : ℕ → NumberedEdge → Type 0
AreEndsBelow count pair = IsBelow count pair.0 × (pair.1 < count)

-- ---- edges that are lent

-- the step of a vertex that may be lent
abbrev pub step_of_ref : Option (Bor ModuleVersion) → Step
step_of_ref None = Main
step_of_ref (Some vertex) = Of vertex.now

-- the edge that is lent
abbrev pub edge_of_ref : EdgeRef → Edge
edge_of_ref one = edge (step_of_ref one.from) one.to.now
