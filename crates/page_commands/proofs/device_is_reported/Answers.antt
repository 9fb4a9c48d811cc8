use Rattle.page_commands.proofs.Versions.{device_is_reported}
use Rattle.page_commands.proofs.device_is_reported.Goals as goal

pub returns : goal.returns
returns c = device_is_reported
