use Rattle.std.proofs.Common.{refl}
use Rattle.gm_graph.proofs.marks.Marks.has.Goals as goal

pub returns-in-Deep : goal.returns-in-Deep
returns-in-Deep c = rw c.in-Deep.is refl
