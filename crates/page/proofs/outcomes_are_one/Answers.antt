use Rattle.page.proofs.OneOutcome.{one_outcome}
use Rattle.page.proofs.outcomes_are_one.Goals as goal

pub returns : goal.returns
returns c = one_outcome
