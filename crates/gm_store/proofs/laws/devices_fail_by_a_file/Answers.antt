use Rattle.gm_store.proofs.Stops.{fails_by_a_file}
use Rattle.gm_store.proofs.laws.devices_fail_by_a_file.Goals as goal

pub returns : goal.returns
returns g c = fails_by_a_file (g.S.FileSystem.may_open c.args.system.now)
