use Rattle.gomod_laws.proofs.CounterLists.{page_has_another_row, page_is_missing}
use Rattle.gomod_laws.proofs.counterexamples.listings.pages_can_fail_to_join.Goals as goal

pub returns-clause-another : goal.returns-clause-another
returns-clause-another c = page_has_another_row

pub returns-clause-missing : goal.returns-clause-missing
returns-clause-missing c = page_is_missing
