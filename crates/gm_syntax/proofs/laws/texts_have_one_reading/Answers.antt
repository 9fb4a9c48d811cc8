use Rattle.gm_syntax.proofs.OneText.{some_reading, one_reading_of}
use Rattle.gm_syntax.proofs.laws.texts_have_one_reading.Goals as goal

pub returns-clause-some : goal.returns-clause-some
returns-clause-some c = λ text. some_reading text

pub returns-clause-one : goal.returns-clause-one
returns-clause-one c = λ text lines others finish other r s. one_reading_of text lines others finish other r s
