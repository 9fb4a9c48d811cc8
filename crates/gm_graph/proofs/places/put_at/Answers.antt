use Rattle.std.proofs.Common.{◌∙◌}
use Rattle.gm_graph.proofs.FilledPlaces.{push_none}
use Rattle.gm_graph.proofs.places.put_at.Goals as goal

pub room-preserved : goal.room-preserved
room-preserved g c = λ p. rw c.in_ok-push.ensures.items (push_none c.room.items.items c.args.none p ∙ c.room.invariant p)
