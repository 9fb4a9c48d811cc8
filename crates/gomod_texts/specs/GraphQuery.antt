-- What `graph` prints, and how it ends: Go Modules Reference, "go mod graph".
use Rattle.std.specs.Prelude.{◌≡◌, ℕ, List, ◌++◌, codes}
use Rattle.gm_graph_select.specs.declared.step.Edge.{Edge}
use Rattle.gm_graph.specs.Run.{AreEdges}
use Rattle.gomod_texts.specs.Outcome.{Outcome, text_outcome}
use Rattle.std.specs.List.{flat_map}
use Rattle.gomod_texts.specs.LineParts.{line, step_text, vertex_text}
use Rattle.gomod_texts.specs.Queries.{Given, Prints, QueryEnds}

-- the step that the edge leaves, a space, and the vertex that it leads to
abbrev pub edge_text : List ℕ → Edge → List ℕ
edge_text main edge = step_text main edge.from ++ codes " " ++ vertex_text edge.to

-- an edge as a line
abbrev pub edge_line : List ℕ → Edge → List ℕ
edge_line main edge = line (edge_text main edge)

-- each edge as a line, in order
abbrev pub graph_text : List ℕ → List Edge → List ℕ
graph_text main edges = flat_map (edge_line main) edges

-- each edge of the module graph once, in ascending order
abbrev pub PrintsGraph : Prints
PrintsGraph run outcome =
    (edges : List Edge) × AreEdges run edges × (outcome ≡ text_outcome (graph_text run.main.path edges))

-- how `graph` ends
abbrev pub GraphEnds : Given → Outcome → Type 0
GraphEnds = QueryEnds PrintsGraph
