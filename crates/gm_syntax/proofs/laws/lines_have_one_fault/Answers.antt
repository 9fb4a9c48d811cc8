use Rattle.gm_syntax.proofs.OneReading.{one_fault}
use Rattle.gm_syntax.proofs.laws.lines_have_one_fault.Goals as goal

pub returns : goal.returns
returns c = λ line kind other s t. one_fault line kind other s t
