use Rattle.gomod_laws.proofs.LaterRuns.{later_asks_the_same, later_prints_the_same}
use Rattle.gomod_laws.proofs.published_later.what_is_published_later_changes_nothing.Goals as goal

pub returns-clause-prints : goal.returns-clause-prints
returns-clause-prints c = later_prints_the_same

pub returns-clause-asks : goal.returns-clause-asks
returns-clause-asks c = later_asks_the_same
