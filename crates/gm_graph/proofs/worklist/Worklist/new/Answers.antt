use Rattle.std.proofs.Common.{refl}
use Rattle.gm_graph.proofs.Marking.{no_worklist}
use Rattle.gm_graph.proofs.worklist.Worklist.new.Goals as goal

pub returns-clause-worklist : goal.returns-clause-worklist
returns-clause-worklist c = λ modules distinct.
    no_worklist modules _ distinct c.in_ok-with_capacity.ensures.items c.new.ensures.items refl
