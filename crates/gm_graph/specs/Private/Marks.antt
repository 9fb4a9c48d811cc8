-- The marks of a vertex: the depths at which it has turns.
use Rattle.std.specs.Prelude.{Bool, false}
use Rattle.gm_graph_files.specs.declared.depth.Depth.{Depth}
use Rattle.gm_graph_files.specs.declared.depth.Depth.TheVariants.{Top, Deep}
use Rattle.gm_graph.specs.declared.marks.Marks.{Marks}

-- the marks of a vertex without turns
abbrev pub no_marks : Marks
no_marks = record { top = false; deep = false }

-- Whether a vertex with these marks has a turn at a depth.
abbrev pub is_marked : Marks → Depth → Bool
is_marked marks Top = marks.top
is_marked marks Deep = marks.deep
