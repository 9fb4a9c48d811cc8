use Rattle.page.proofs.Table.{excludes_are_told}
use Rattle.page.proofs.excludes_are_told.Goals as goal

pub returns : goal.returns
returns c = excludes_are_told
