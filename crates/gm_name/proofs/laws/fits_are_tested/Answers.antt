use Rattle.gm_name.proofs.NameTests.{fit-tested}
use Rattle.gm_name.proofs.laws.fits_are_tested.Goals as goal

pub returns : goal.returns
returns c = fit-tested
