use Rattle.page.proofs.Listed.{pruned_is_listed}
use Rattle.page.proofs.pruned_is_listed.Goals as goal

pub returns : goal.returns
returns c = pruned_is_listed
