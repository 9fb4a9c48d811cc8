use Rattle.gm_syntax.proofs.NewWords.{bare_is_tested}
use Rattle.gm_syntax.proofs.laws.bare_words_are_tested.Goals as goal

pub returns : goal.returns
returns c = λ text. bare_is_tested text
