use Rattle.gomod_laws.proofs.CounterGraphs.{chain_begins_elsewhere, chain_ends_elsewhere, chain_is_too_long}
use Rattle.gomod_laws.proofs.counterexamples.listings.a_chain_can_be_no_shortest.Goals as goal

pub returns-clause-ends : goal.returns-clause-ends
returns-clause-ends c = chain_ends_elsewhere

pub returns-clause-begins : goal.returns-clause-begins
returns-clause-begins c = chain_begins_elsewhere

pub returns-clause-long : goal.returns-clause-long
returns-clause-long c = chain_is_too_long
