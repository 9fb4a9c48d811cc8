use Rattle.gm_syntax.proofs.NewWords.{new_word_stands}
use Rattle.gm_syntax.proofs.laws.new_words_are_valid.Goals as goal

pub returns : goal.returns
returns c = λ value t plain h. new_word_stands value t plain h
