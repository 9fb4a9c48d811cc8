use Rattle.page.proofs.Table.{orders_are_told}
use Rattle.page.proofs.orders_are_told.Goals as goal

pub returns : goal.returns
returns c = orders_are_told
