use Rattle.page.proofs.Reported.{malformed_is_reported}
use Rattle.page.proofs.malformed_is_reported.Goals as goal

pub returns : goal.returns
returns c = malformed_is_reported
