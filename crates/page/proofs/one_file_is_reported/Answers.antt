use Rattle.page.proofs.Reported.{one_file_is_reported}
use Rattle.page.proofs.one_file_is_reported.Goals as goal

pub returns : goal.returns
returns c = one_file_is_reported
