use Rattle.gomod_laws.proofs.ContradictedAdditions.{line_is_lost, row_is_lower}
use Rattle.gomod_laws.proofs.counterexamples.additions.an_addition_can_lower.Goals as goal

pub returns-clause-row : goal.returns-clause-row
returns-clause-row c = row_is_lower

pub returns-clause-line : goal.returns-clause-line
returns-clause-line c = line_is_lost
