use Rattle.std.proofs.Common.{Bor}
use Rattle.clap.specs.Walk.{Text}
use Rattle.gomod_hints.proofs.HintWords.{map_at}
use Rattle.gomod_hints.proofs.hints.first_named.Goals as goal

pub returns-then-eq-2 : goal.returns-then-eq-2
returns-then-eq-2 c = map_at (λ (w : Bor Text). w.now) c.args.words.now c.loop-word.word-index _ c.loop-word-test.true
