use Rattle.page.proofs.Reported.{device_is_reported}
use Rattle.page.proofs.device_is_reported.Goals as goal

pub returns : goal.returns
returns c = device_is_reported
