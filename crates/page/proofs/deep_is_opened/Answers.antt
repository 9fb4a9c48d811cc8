use Rattle.page.proofs.Listed.{deep_is_opened}
use Rattle.page.proofs.deep_is_opened.Goals as goal

pub returns : goal.returns
returns c = deep_is_opened
