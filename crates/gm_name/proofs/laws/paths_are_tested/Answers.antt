use Rattle.gm_name.proofs.NameTests.{path-tested}
use Rattle.gm_name.proofs.laws.paths_are_tested.Goals as goal

pub returns : goal.returns
returns c = path-tested
