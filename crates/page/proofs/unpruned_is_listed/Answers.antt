use Rattle.page.proofs.Listed.{unpruned_is_listed}
use Rattle.page.proofs.unpruned_is_listed.Goals as goal

pub returns : goal.returns
returns c = unpruned_is_listed
