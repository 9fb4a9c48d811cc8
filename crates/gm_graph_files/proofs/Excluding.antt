-- Lists without an excluded module.
use Rattle.std.proofs.Common.{◌≡◌, not, Bool, false, List, [], ◌∷◌, refl, ap}
use Rattle.std.proofs.lemmas.Bool.{or_parts}
use Rattle.std.specs.List.{filter, list_any}

-- If no element passes the test, all elements are among those that don't.
pub all_others : {X : Type 0} (p : X → Bool) (xs : List X) → list_any p xs ≡ false → xs ≡ filter (λ x. not (p x)) xs
all_others p [] e = refl
all_others p (x ∷ xs) e =
    let both = or_parts (p x) (list_any p xs) e in
    rw both.0 (ap (λ (rest : List _). x ∷ rest) (all_others p xs both.1))
