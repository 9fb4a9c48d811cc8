use Rattle.std.proofs.Common.{ap}
use Rattle.std.specs.Prelude.{not}
use Rattle.gm_graph_files.proofs.summary.Summary.leads_on.Goals as goal

pub returns-in-Top : goal.returns-in-Top
returns-in-Top c = λ requirements. rw c.in-Top.is (ap not c.is_pruned.ensures)
