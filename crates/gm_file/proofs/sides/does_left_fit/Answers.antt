use Rattle.gm_name.proofs.NameTests.{test-is}
use Rattle.gm_file.proofs.sides.does_left_fit.Goals as goal

pub returns-in-Some : goal.returns-in-Some
returns-in-Some c = rw c.in-Some.is (test-is _ _ _ c.fits.ensures)
