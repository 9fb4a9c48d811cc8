use Rattle.std.proofs.Common.{◌≡◌, ◌+◌, ◌-◌, ℕ, get_or, length}
use Rattle.gm_graph.proofs.places.put_at.Given as goal

abbrev pub invariant-room : goal.invariant-room
invariant-room g l = (p : ℕ) → get_or l.items.items p l.none ≡ get_or l.fn.items.items p l.none

abbrev pub decreases-room : goal.decreases-room
decreases-room g l = l.place + 1 - length l.items.items
