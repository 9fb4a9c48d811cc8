use Rattle.gm_syntax.proofs.Stable.{spelled_are_words}
use Rattle.gm_syntax.proofs.laws.spelled_are_words.Goals as goal

pub returns : goal.returns
returns c = λ text words suffix plain spelled. spelled_are_words text words suffix plain spelled
