use Rattle.gomod_laws.proofs.ContradictedAdditions.{chain_is_by_no_line, chain_is_to_another, unlisted_is_shown}
use Rattle.gomod_laws.proofs.counterexamples.additions.a_row_can_be_unexplained.Goals as goal

pub returns-clause-way : goal.returns-clause-way
returns-clause-way c = chain_is_by_no_line

pub returns-clause-end : goal.returns-clause-end
returns-clause-end c = chain_is_to_another

pub returns-clause-unlisted : goal.returns-clause-unlisted
returns-clause-unlisted c = unlisted_is_shown
