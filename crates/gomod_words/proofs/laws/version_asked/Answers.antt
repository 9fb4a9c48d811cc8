use Rattle.gomod_words.proofs.Asked.{version_by_long, version_by_short}
use Rattle.gomod_words.proofs.laws.version_asked.Goals as goal

pub returns : goal.returns
returns c = λ program. (version_by_long program, version_by_short program)
