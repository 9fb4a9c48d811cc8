use Rattle.std.proofs.Common.{Some}
use Rattle.gomod_words.proofs.usage.with_hint.Goals as goal

pub returns-in_ok-text-in-Some : goal.returns-in_ok-text-in-Some
returns-in_ok-text-in-Some c = (Some c.in-Some.hint.now, rw c.takes_operations.ensures at (rw c.in-Some.is at c.in_ok-hint.ensures), c.in_ok-text-in-Some.ensures.ok)
