-- Facts of truth values and of cases that proofs of several crates cite.
use Rattle.std.proofs.Common.{◌≡◌, Bool, true, false, ◌&&◌, ◌||◌, ◌⊎◌, inl, inr, refl}

pub and-true : (b : Bool) → (b && true) ≡ b
and-true true = refl
and-true false = refl

pub and-false : (b : Bool) → (b && false) ≡ false
and-false true = refl
and-false false = refl

pub or-false : (b : Bool) → (b || false) ≡ b
or-false true = refl
or-false false = refl

-- if neither holds, the first doesn't
pub or-left : (a b : Bool) → (a || b) ≡ false → a ≡ false
or-left true b e = cc e
or-left false b e = refl

pub cases : {A B C : Type 0} → A ⊎ B → (A → C) → (B → C) → C
cases (inl a) f g = f a
cases (inr b) f g = g b
