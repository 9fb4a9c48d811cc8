use Rattle.page.proofs.Listed.{greater_version_is_listed}
use Rattle.page.proofs.greater_version_is_listed.Goals as goal

pub returns : goal.returns
returns c = greater_version_is_listed
