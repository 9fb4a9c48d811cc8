use Rattle.gm_syntax.proofs.OneReading.{one_spelling}
use Rattle.gm_syntax.proofs.laws.lines_have_one_spelling.Goals as goal

pub returns : goal.returns
returns c = λ line words others comment other s t. one_spelling line words others comment other s t
