use Rattle.std.proofs.Common.{◌≡◌, drop, map}
use Rattle.std.specs.List.{find}
use Rattle.gomod_hints.specs.Hints.{begins_with_dash}
use Rattle.gomod_words.proofs.dashed.first_with_dash.Given as goal

-- the word is among those that are left
abbrev pub invariant-loop-word : goal.invariant-loop-word
invariant-loop-word l = find begins_with_dash (map (λ word. word.now) (drop l.word-index l.words))
    ≡ find begins_with_dash (map (λ word. word.now) l.words)
