use Rattle.gomod_laws.proofs.LineOrderLines.{lines_in_any_order}
use Rattle.gomod_laws.proofs.line_order.lines_in_any_order.Goals as goal

pub returns : goal.returns
returns c = lines_in_any_order
