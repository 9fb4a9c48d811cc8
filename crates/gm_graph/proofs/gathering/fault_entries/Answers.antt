use Rattle.std.proofs.Common.{◌∙◌, append_assoc}
use Rattle.gm_graph.proofs.gathering.fault_entries.Goals as goal

pub loop-vertex-preserved : goal.loop-vertex-preserved
loop-vertex-preserved c =
    rw c.in_ok-push.ensures.items (append_assoc c.loop-vertex.list.items _ _ ∙ rw c.in-Some.ensures.steps at c.loop-vertex.invariant)
