use Rattle.gomod_words.proofs.Asked.{error_without_words}
use Rattle.gomod_words.proofs.laws.nothing_asked.Goals as goal

pub returns : goal.returns
returns c = error_without_words
