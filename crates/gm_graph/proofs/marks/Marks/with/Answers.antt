use Rattle.std.proofs.Common.{◌≡◌, ◌||◌, refl, true}
use Rattle.gm_graph_files.specs.declared.depth.Depth.{Depth}
use Rattle.gm_graph_files.specs.declared.depth.Depth.TheVariants.{Deep, Top}
use Rattle.gm_graph_files.specs.Turns.{same_depth}
use Rattle.gm_graph.specs.Private.Marks.{is_marked}
use Rattle.gm_graph.specs.declared.marks.Marks.{Marks}
use Rattle.gm_graph.proofs.marks.Marks.with.Goals as goal

deep_marked : (marks : Marks) (d : Depth)
    → is_marked (record { top = marks.top; deep = true }) d ≡ (same_depth d Deep || is_marked marks d)
deep_marked marks Top = refl
deep_marked marks Deep = refl

pub returns-in-Deep : goal.returns-in-Deep
returns-in-Deep c = rw c.in-Deep.is (deep_marked c.args.self)
