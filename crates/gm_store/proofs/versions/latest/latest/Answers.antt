use Rattle.gm_store.proofs.Greatest.{latest_of_all}
use Rattle.gm_store.proofs.versions.latest.latest.Goals as goal

pub returns-in-None : goal.returns-in-None
returns-in-None c = latest_of_all c.args.versions.now c.greatest-in-None.result c.in-None.ensures c.greatest-in-None.ensures
