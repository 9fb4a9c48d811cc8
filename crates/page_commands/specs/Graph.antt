-- A copy from crates/gm_graph_select/specs/Graph.antt, which tools/check/headline.py writes.
use Rattle.std.specs.declared.cmp.Ordering.{Ordering}
use Rattle.std.specs.declared.cmp.Ordering.TheVariants.{Less, Equal, Greater}
use Rattle.std.specs.Ordering.{ordering_then}
use Rattle.page_commands.specs.ModuleVersion.{ModuleVersion, pair_cmp}
use Rattle.page_commands.specs.Types.Step.{Step, Main, Of}
use Rattle.page_commands.specs.Types.Edge.{Edge}

-- For each step and each vertex, what it means that an edge leads from the former to the latter.
abbrev pub Edges : Type 1
Edges = Step → ModuleVersion → Type 0

-- the order of steps: the main module, then the vertices
abbrev pub step_cmp : Step → Step → Ordering
step_cmp Main Main = Equal
step_cmp Main (Of y) = Less
step_cmp (Of x) Main = Greater
step_cmp (Of x) (Of y) = pair_cmp x y

-- the order of edges: by the step that they leave, then by the vertex that they lead to
abbrev pub edge_cmp : Edge → Edge → Ordering
edge_cmp a b = ordering_then (step_cmp a.from b.from) (pair_cmp a.to b.to)
