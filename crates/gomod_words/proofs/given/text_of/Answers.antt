use Rattle.gomod_words.proofs.GivenWords.{shows_word}
use Rattle.gomod_words.proofs.given.text_of.Goals as goal

pub returns-in-Err-clause-fault : goal.returns-in-Err-clause-fault
returns-in-Err-clause-fault c = shows_word c.args.word.now c.unreadable.result c.in-Err.ensures.cases.0 c.unreadable.ensures
