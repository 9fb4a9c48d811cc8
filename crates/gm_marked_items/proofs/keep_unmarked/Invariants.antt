use Rattle.gm_marked_items.proofs.Kept.{IsKeptTo}
use Rattle.gm_marked_items.proofs.keep_unmarked.Given as goal

abbrev pub invariant-loop-n : goal.invariant-loop-n
invariant-loop-n g l = IsKeptTo l.marks l.initial.list.items l.n l.count l.list.items
