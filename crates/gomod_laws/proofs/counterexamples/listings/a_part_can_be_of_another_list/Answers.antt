use Rattle.gomod_laws.proofs.CounterLists.{part_has_another_row, part_is_the_whole, part_is_too_long}
use Rattle.gomod_laws.proofs.counterexamples.listings.a_part_can_be_of_another_list.Goals as goal

pub returns-clause-another : goal.returns-clause-another
returns-clause-another c = part_has_another_row

pub returns-clause-long : goal.returns-clause-long
returns-clause-long c = part_is_too_long

pub returns-clause-whole : goal.returns-clause-whole
returns-clause-whole c = part_is_the_whole
