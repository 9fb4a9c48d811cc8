-- Lists whose members all pass a test.
use Rattle.std.proofs.Common.{◌≡◌, ℕ, Bool, true, List, [], ◌∷◌, ◌++◌, refl}
use Rattle.std.proofs.lemmas.Bool.{and_from}
use Rattle.std.proofs.lemmas.List.Folds.{list_all-append}
use Rattle.std.specs.Cmp.{first_so, second_so}
use Rattle.std.specs.List.{join_with_byte, list_all}

-- a list that passes a test passes every weaker one
pub weaker : {X : Type 0} (p q : X → Bool) → ((x : X) → p x ≡ true → q x ≡ true) → (xs : List X) → list_all p xs ≡ true → list_all q xs ≡ true
weaker p q gives [] all = refl
weaker p q gives (x ∷ xs) all = and_from _ _ (gives x (first_so _ _ all)) (weaker p q gives xs (second_so _ _ all))

pub all-append : (p : ℕ → Bool) (xs ys : List ℕ) → list_all p xs ≡ true → list_all p ys ≡ true → list_all p (xs ++ ys) ≡ true
all-append p xs ys a b = rw (list_all-append p xs ys) (and_from _ _ a b)

pub all-join : (p : ℕ → Bool) (c : ℕ) (pieces : List (List ℕ)) → p c ≡ true
    → list_all (list_all p) pieces ≡ true → list_all p (join_with_byte c pieces) ≡ true
all-join p c [] mark each = refl
all-join p c (x ∷ []) mark each = first_so _ _ each
all-join p c (x ∷ y ∷ rest) mark each =
    all-append p x (c ∷ join_with_byte c (y ∷ rest)) (first_so _ _ each) (and_from _ _ mark (all-join p c (y ∷ rest) mark (second_so _ _ each)))
