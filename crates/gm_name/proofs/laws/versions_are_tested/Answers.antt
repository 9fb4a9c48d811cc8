use Rattle.gm_name.proofs.NameTests.{version-tested}
use Rattle.gm_name.proofs.laws.versions_are_tested.Goals as goal

pub returns : goal.returns
returns c = version-tested
