use Rattle.gomod_words.proofs.UsageLines.{within_at}
use Rattle.gomod_words.proofs.refusal.is_within.Goals as goal

pub returns-then-has_text : goal.returns-then-has_text
returns-then-has_text c =
    λ _. within_at c.args.text.now c.args.words.now c.loop-word.word-index _ c.loop-word-test.true (c.has_text.ensures.0 c.if-has_text.true)
