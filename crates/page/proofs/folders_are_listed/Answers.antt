use Rattle.page.proofs.Listed.{folders_are_listed}
use Rattle.page.proofs.folders_are_listed.Goals as goal

pub returns : goal.returns
returns c = folders_are_listed
