use Rattle.std.proofs.Common.{◌≡◌, ◌∷◌, codes, map, take}
use Rattle.std.specs.String.{string_bytes}
use Rattle.gomod_run.proofs.program.texts_of.Given as goal

-- the program's name, then the texts of the words so far
abbrev pub invariant-loop-word : goal.invariant-loop-word
invariant-loop-word l = map (λ text. text.now) l.texts.items ≡ codes "gomod" ∷ map string_bytes (take l.word-index l.words)
