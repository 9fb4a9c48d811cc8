use Rattle.gomod_hints.specs.Hints.{IsHintFor, IsHintOf, texts_of}
use Rattle.gomod_hints.proofs.HintWords.{says_too}
use Rattle.gomod_hints.proofs.hints.hint_for.Goals as goal

pub returns-in-Some : goal.returns-in-Some
returns-in-Some c =
    let word = c.in-Some.word.now in
    says_too (IsHintFor c.args.takes_operations word) (IsHintOf c.args.takes_operations (texts_of c.args.words.now)) (λ text said. (word, rw c.in-Some.is at c.word_about.ensures, said)) c.hint_on.result c.hint_on.ensures
