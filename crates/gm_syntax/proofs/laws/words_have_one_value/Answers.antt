use Rattle.gm_syntax.proofs.NewWords.{value_is}
use Rattle.gm_syntax.proofs.laws.words_have_one_value.Goals as goal

pub returns : goal.returns
returns c = λ word value h. value_is word value h
