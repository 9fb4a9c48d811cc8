use Rattle.page.proofs.Table.{texts_are_told}
use Rattle.page.proofs.texts_are_told.Goals as goal

pub returns : goal.returns
returns c = texts_are_told
