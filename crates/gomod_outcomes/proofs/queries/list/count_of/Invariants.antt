use Rattle.std.proofs.Common.{◌≡◌, ◌+◌, length}
use Rattle.gomod_outcomes.proofs.queries.list.count_of.Given as goal

-- the rows so far were counted
abbrev pub invariant-rows : goal.invariant-rows
invariant-rows l = l.count + length l._row-iterator ≡ length l.fn.rows
