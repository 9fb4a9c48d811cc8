use Rattle.page.proofs.Listed.{unopened_is_listed}
use Rattle.page.proofs.unopened_is_listed.Goals as goal

pub returns : goal.returns
returns c = unopened_is_listed
