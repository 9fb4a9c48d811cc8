use Rattle.page.proofs.Listed.{folder_is_listed}
use Rattle.page.proofs.folder_is_listed.Goals as goal

pub returns : goal.returns
returns c = folder_is_listed
