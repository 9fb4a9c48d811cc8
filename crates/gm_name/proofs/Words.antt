-- A fingerprint, eight bytes further on, and at fewer than eight.
use Rattle.std.proofs.Common.{◌≡◌, ◌<◌, ◌≤◌, ℕ, List, [], ◌∷◌, arith, drop, length, refl}
use Rattle.gm_name.specs.Fingerprint.{by_bytes, fingerprint, first_eight, number_with_word}

pub after_eight : (number : ℕ) (xs : List ℕ) → 8 ≤ length xs → fingerprint (number_with_word number (first_eight xs)) (drop 8 xs) ≡ fingerprint number xs
after_eight number [] many = absurd (omega (arith, many))
after_eight number (a ∷ []) many = absurd (omega (arith, many))
after_eight number (a ∷ b ∷ []) many = absurd (omega (arith, many))
after_eight number (a ∷ b ∷ c ∷ []) many = absurd (omega (arith, many))
after_eight number (a ∷ b ∷ c ∷ d ∷ []) many = absurd (omega (arith, many))
after_eight number (a ∷ b ∷ c ∷ d ∷ e ∷ []) many = absurd (omega (arith, many))
after_eight number (a ∷ b ∷ c ∷ d ∷ e ∷ f ∷ []) many = absurd (omega (arith, many))
after_eight number (a ∷ b ∷ c ∷ d ∷ e ∷ f ∷ g ∷ []) many = absurd (omega (arith, many))
after_eight number (a ∷ b ∷ c ∷ d ∷ e ∷ f ∷ g ∷ h ∷ rest) many = refl

pub no_word : (number : ℕ) (xs : List ℕ) → length xs < 8 → by_bytes number xs ≡ fingerprint number xs
no_word number [] few = refl
no_word number (a ∷ []) few = refl
no_word number (a ∷ b ∷ []) few = refl
no_word number (a ∷ b ∷ c ∷ []) few = refl
no_word number (a ∷ b ∷ c ∷ d ∷ []) few = refl
no_word number (a ∷ b ∷ c ∷ d ∷ e ∷ []) few = refl
no_word number (a ∷ b ∷ c ∷ d ∷ e ∷ f ∷ []) few = refl
no_word number (a ∷ b ∷ c ∷ d ∷ e ∷ f ∷ g ∷ []) few = refl
no_word number (a ∷ b ∷ c ∷ d ∷ e ∷ f ∷ g ∷ h ∷ rest) few = absurd (omega (arith, few))
