-- What holds of each element of two lists holds of each element of both together.
use Rattle.std.proofs.Common.{List, [], ◌∷◌, ◌++◌}
use Rattle.std.specs.List.{AllByRecursion}

pub all_together : {X : Type 0} (P : X → Type 0) (xs ys : List X) → AllByRecursion P xs → AllByRecursion P ys
    → AllByRecursion P (xs ++ ys)
all_together P [] ys p q = q
all_together P (x ∷ xs) ys p q = (p.0, all_together P xs ys p.1 q)

pub all_parts : {X : Type 0} (P : X → Type 0) (xs ys : List X) → AllByRecursion P (xs ++ ys)
    → AllByRecursion P xs × AllByRecursion P ys
all_parts P [] ys p = (tt, p)
all_parts P (x ∷ xs) ys p = let r = all_parts P xs ys p.1 in ((p.0, r.0), r.1)
