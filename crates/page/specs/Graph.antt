-- A copy from crates/gm_graph_select/specs/Graph.antt, which tools/check/headline.py writes.
use Rattle.page.specs.ModuleVersion.{ModuleVersion}
use Rattle.page.specs.Types.{Step}

-- For each step and each vertex, what it means that an edge leads from the former to the latter.
abbrev pub Edges : Type 1
Edges = Step → ModuleVersion → Type 0

-- An edge leads to the vertex.
abbrev pub IsEdgeEnd : Edges → ModuleVersion → Type 0
IsEdgeEnd edges x = (s : Step) × edges s x
