use Rattle.page.proofs.Table.{replaces_are_told}
use Rattle.page.proofs.replaces_are_told.Goals as goal

pub returns : goal.returns
returns c = replaces_are_told
