-- What the tables of hints say of words.
use Rattle.std.proofs.Common.{◌∷◌, ◌<◌, ℕ, Bor, Err, IfSome, List, [], Ok, Option, None, Result, Some, arith, get_or, length, map, refl, suc, zero}
use Rattle.std.specs.List.{Contains}
use Rattle.clap.specs.Walk.{Text}
use Rattle.gomod_hints.specs.Hints.{Advises}

-- an element at a place of a list, taken by a function, is one of those of the list
pub map_at : {X Y : Type 0} (f : X → Y) (xs : List X) (i : ℕ) (d : X) → i < length xs → Contains (map f xs) (f (get_or xs i d))
map_at f [] i d less = absurd (omega arith)
map_at f (x ∷ xs) zero d less = (0, omega arith, refl)
map_at f (x ∷ xs) (suc i) d less = let rest = map_at f xs i d (omega arith) in (suc rest.0, omega (arith, rest.1), rest.2)

-- what is said, by what it is said
pub some_too : (P Q : Text → Type 0) → ((text : Text) → P text → Q text) → (said : Option (Bor Text)) → IfSome said (λ text. P text.now)
    → IfSome said (λ text. Q text.now)
some_too P Q from None is = tt
some_too P Q from (Some text) is = from text.now is

pub says_too : {E : Type 0} (P Q : Text → Type 0) → ((text : Text) → P text → Q text) → (said : Result (Option (Bor Text)) E)
    → Advises P said → Advises Q said
says_too P Q from (Ok said) is = some_too P Q from said is
says_too P Q from (Err fault) is = tt
