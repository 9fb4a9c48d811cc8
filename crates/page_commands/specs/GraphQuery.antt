-- A copy from crates/gomod_texts/specs/GraphQuery.antt, which tools/check/headline.py writes.
use Rattle.std.specs.Prelude.{◌≡◌, ℕ, List, ◌++◌, codes}
use Rattle.page_commands.specs.Types.Edge.{Edge}
use Rattle.page_commands.specs.Run.{AreEdges}
use Rattle.page_commands.specs.Outcome.{text_outcome}
use Rattle.std.specs.List.{flat_map}
use Rattle.page_commands.specs.LineParts.{line, step_text, vertex_text}
use Rattle.page_commands.specs.Queries.{Prints}

-- the step that the edge leaves, a space, and the vertex that it leads to
abbrev pub edge_text : List ℕ → Edge → List ℕ
edge_text main edge = step_text main edge.from ++ codes " " ++ vertex_text edge.to

-- an edge as a line
abbrev pub edge_line : List ℕ → Edge → List ℕ
edge_line main edge = line (edge_text main edge)

-- each edge as a line, in order
abbrev pub graph_text : List ℕ → List Edge → List ℕ
graph_text main edges = flat_map (edge_line main) edges

-- each edge of the module graph once, in ascending order
abbrev pub PrintsGraph : Prints
PrintsGraph run outcome =
    (edges : List Edge) × AreEdges run edges × (outcome ≡ text_outcome (graph_text run.main.path edges))
