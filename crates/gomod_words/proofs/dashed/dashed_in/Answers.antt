use Rattle.std.proofs.Common.{◌≡◌, ◌∷◌, ◌<◌, ℕ, Bor, List, [], Option, None, arith, length, map, refl}
use Rattle.gomod_words.specs.Dashed.{dashed_in}
use Rattle.gomod_words.proofs.dashed.dashed_in.Goals as goal

-- words with no word after the program's name have no operation
below : (words : List (Bor (List ℕ))) → length words < 2 → ◌≡◌ {A = Option (List ℕ)} None (dashed_in (map (λ word. word.now) words))
below [] less = refl
below (program ∷ []) less = refl
below (program ∷ name ∷ words) less = absurd (omega arith)

pub returns-in_default : goal.returns-in_default
returns-in_default c = below c.args.words.now c.in_default.len_below
