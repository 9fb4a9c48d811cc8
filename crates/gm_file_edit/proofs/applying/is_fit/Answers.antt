use Rattle.std.proofs.Common.{rules}
use Rattle.gm_name.proofs.NameTests.{test-is}
use Rattle.gm_file_edit.proofs.applying.is_fit.Goals as goal

pub returns-in-Set-Require : goal.returns-in-Set-Require
returns-in-Set-Require c =
    let fits = test-is c.in-Set-Require.path c.in-Set-Require.version c.fits.result c.fits.ensures in
    search (rules, fits)

pub returns-in-Add-Exclude : goal.returns-in-Add-Exclude
returns-in-Add-Exclude c =
    let fits = test-is c.in-Add-Exclude.path c.in-Add-Exclude.version c.fits-in-Add-Exclude.result c.fits-in-Add-Exclude.ensures in
    search (rules, fits)
