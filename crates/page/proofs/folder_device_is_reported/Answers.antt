use Rattle.page.proofs.Reported.{folder_device_is_reported}
use Rattle.page.proofs.folder_device_is_reported.Goals as goal

pub returns : goal.returns
returns c = folder_device_is_reported
