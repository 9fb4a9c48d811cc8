-- Lists by places, which hold nothing yet for the last ones.
use Rattle.std.proofs.Common.{◌≡◌, ◌++◌, ◌∷◌, [], ℕ, zero, suc, List, get_or, refl}

-- One place more for nothing.
pub push_none : {T : Type 0} (items : List T) (none : T) (p : ℕ) → get_or (items ++ none ∷ []) p none ≡ get_or items p none
push_none [] none zero = refl
push_none [] none (suc p) = refl
push_none (item ∷ items) none zero = refl
push_none (item ∷ items) none (suc p) = push_none items none p
