-- The module graph. Its vertices are module paths at versions, and its edges go from the main module or a vertex to
-- a vertex that it requires (Go Modules Reference, "Minimal version selection").
use Rattle.std.specs.Prelude.{◌↔◌, List, Contains}
use Rattle.std.specs.declared.cmp.Ordering.{Ordering}
use Rattle.std.specs.declared.cmp.Ordering.TheVariants.{Less, Equal, Greater}
use Rattle.std.specs.Ordering.{ordering_then}
use Rattle.gm_name.specs.ModuleVersion.{ModuleVersion, pair_cmp}
use Rattle.gm_graph_select.specs.declared.step.Step.{Step}
use Rattle.gm_graph_select.specs.declared.step.Step.TheVariants.{Main, Of}
use Rattle.gm_graph_select.specs.declared.step.Edge.{Edge}

-- For each step and each vertex, what it means that an edge leads from the former to the latter.
abbrev pub Edges : Type 1
Edges = Step → ModuleVersion → Type 0

-- the edge from a step to a vertex
abbrev pub edge : Step → ModuleVersion → Edge
edge s y = record { from = s; to = y }

-- the edges of a list
abbrev pub among : List Edge → Edges
among edges s y = Contains edges (edge s y)

-- An edge leads to the vertex.
abbrev pub IsEdgeEnd : Edges → ModuleVersion → Type 0
IsEdgeEnd edges x = (s : Step) × edges s x

-- The list has exactly the vertices that edges lead to.
abbrev pub AreEnds : List ModuleVersion → Edges → Type 0
AreEnds ends edges = (x : ModuleVersion) → Contains ends x ↔ IsEdgeEnd edges x

-- the order of steps: the main module, then the vertices
abbrev pub step_cmp : Step → Step → Ordering
step_cmp Main Main = Equal
step_cmp Main (Of y) = Less
step_cmp (Of x) Main = Greater
step_cmp (Of x) (Of y) = pair_cmp x y

-- the order of edges: by the step that they leave, then by the vertex that they lead to
abbrev pub edge_cmp : Edge → Edge → Ordering
edge_cmp a b = ordering_then (step_cmp a.from b.from) (pair_cmp a.to b.to)
