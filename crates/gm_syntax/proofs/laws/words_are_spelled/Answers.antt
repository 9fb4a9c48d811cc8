use Rattle.gm_syntax.proofs.Stable.{words_are_spelled}
use Rattle.gm_syntax.proofs.laws.words_are_spelled.Goals as goal

pub returns : goal.returns
returns c = λ words suffix good end. words_are_spelled words suffix good end
