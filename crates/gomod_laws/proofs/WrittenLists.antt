-- Lists that are written out: what holds of each element, and of each two.
use Rattle.std.proofs.Common.{◌∷◌, List, [], Contains, arith}
use Rattle.std.specs.Prelude.{AllPairs}
use Rattle.std.specs.List.{AllByRecursion}
use Rattle.std.proofs.lemmas.List.Elements.{All-contains, All-from_recursion}
use Rattle.std.proofs.lemmas.List.Kept.{AllPairs-cons}

pub each_of : {X : Type 0} (P : X → Type 0) (xs : List X) → AllByRecursion P xs → (x : X) → Contains xs x → P x
each_of P xs all x there = All-contains P _ x (All-from_recursion P _ all) there

abbrev pub Pairs : {X : Type 0} → (X → X → Type 0) → List X → Type 0
Pairs R [] = Unit {0}
Pairs R (x ∷ xs) = AllByRecursion (R x) xs × Pairs R xs

pub pairs_of : {X : Type 0} (R : X → X → Type 0) (xs : List X) → Pairs R xs → AllPairs R xs
pairs_of R [] h = λ i j d lt below. absurd (omega (arith, below))
pairs_of R (x ∷ xs) h = AllPairs-cons R x xs (All-from_recursion _ xs h.0) (pairs_of R xs h.1)
