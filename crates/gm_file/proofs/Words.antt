-- A list with one item or two is made of them.
use Rattle.std.proofs.Common.{◌≡◌, ◌<◌, ◌≤◌, List, [], ◌∷◌, length, get_or, arith}

pub one-word : {X : Type 0} (xs : List X) (x : X) → 1 ≤ length xs → length xs < 2 → x ≡ get_or xs 0 x → xs ≡ x ∷ []
one-word [] x least below first = absurd (omega (arith, least))
one-word (y ∷ []) x least below first = rw (← first)
one-word (y ∷ z ∷ xs) x least below first = absurd (omega (arith, below))

pub two-words : {X : Type 0} (xs : List X) (x y : X) → 2 ≤ length xs → length xs < 3 → x ≡ get_or xs 0 x → y ≡ get_or xs 1 y → xs ≡ x ∷ y ∷ []
two-words [] x y least below first second = absurd (omega (arith, least))
two-words (a ∷ []) x y least below first second = absurd (omega (arith, least))
two-words (a ∷ b ∷ []) x y least below first second = cc
two-words (a ∷ b ∷ c ∷ xs) x y least below first second = absurd (omega (arith, below))
