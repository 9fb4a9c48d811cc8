use Rattle.gomod_words.proofs.GivenWords.{AreBefore}
use Rattle.gomod_words.proofs.given.given_words.Given as goal

-- the words so far are those before the one with the number
abbrev pub invariant-loop-number : goal.invariant-loop-number
invariant-loop-number g l = AreBefore (g.S.Words.given l.rt) l.number l.words.items
