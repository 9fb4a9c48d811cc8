use Rattle.gomod_laws.proofs.KnownVersions.{one_ten_is_above}
use Rattle.gomod_laws.proofs.example_world.numbers_order_versions.Goals as goal

pub returns : goal.returns
returns c = one_ten_is_above
