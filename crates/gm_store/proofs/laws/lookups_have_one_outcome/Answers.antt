use Rattle.gm_store.proofs.Stops.{one_stop, some_stop}
use Rattle.gm_store.proofs.laws.lookups_have_one_outcome.Goals as goal

pub returns-clause-one : goal.returns-clause-one
returns-clause-one c = one_stop

pub returns-clause-some : goal.returns-clause-some
returns-clause-some c = some_stop
