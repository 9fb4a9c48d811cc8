-- Filters of lists, and tests of what they leave.
use Rattle.std.proofs.Common.{◌≡◌, ◌&&◌, not, Bool, true, false, List, [], ◌∷◌, refl, sym, ap, ◌∙◌, inl, inr}
use mathlib.Core.Bool.{and_self}
use Rattle.std.specs.Prelude.{filter}
use Rattle.std.specs.List.{list_any}
use Rattle.std.proofs.lemmas.Bool.{and_right, cases_Bool, not-true, or_from, or_parts}
use Rattle.std.proofs.lemmas.List.Elements.{filter_agree}

pub filter-one : {X : Type 0} (p : X → Bool) (x : X) (xs : List X) → p x ≡ true → filter p (x ∷ xs) ≡ x ∷ filter p xs
filter-one p x xs e = rw e

pub filter-none : {X : Type 0} (p : X → Bool) (x : X) (xs : List X) → p x ≡ false → filter p (x ∷ xs) ≡ filter p xs
filter-none p x xs e = rw e

pub filter-filter : {X : Type 0} (p q : X → Bool) (xs : List X) → filter p (filter q xs) ≡ filter (λ x. q x && p x) xs
filter-filter p q [] = refl
filter-filter {X} p q (x ∷ xs) = elim (cases_Bool (q x)) [
  | inl hit ↦ rw (hit, filter-filter p q xs)
  | inr miss ↦ rw miss (filter-filter p q xs)
]

any-filter : {X : Type 0} (p q : X → Bool) (xs : List X) → list_any p (filter q xs) ≡ list_any (λ x. q x && p x) xs
any-filter p q [] = refl
any-filter p q (x ∷ xs) = elim (cases_Bool (q x)) [
  | inl hit ↦ rw (hit, any-filter p q xs)
  | inr miss ↦ rw miss (any-filter p q xs)
]

-- a test that passes no more than another passes none where that passes none
pub fewer-any : {X : Type 0} (test fewer : X → Bool) → ((x : X) → test x ≡ false → fewer x ≡ false) → (xs : List X)
    → list_any test xs ≡ false → list_any fewer xs ≡ false
fewer-any test fewer less [] e = refl
fewer-any test fewer less (x ∷ xs) e =
    let parts = or_parts _ _ e in
    or_from _ _ (less x parts.0) (fewer-any test fewer less xs parts.1)

-- if what passes one test fails the other, a filter by one leaves none for the other
and-none : (a b : Bool) → (a ≡ true → b ≡ false) → (a && b) ≡ false
and-none true b f = f refl
and-none false b f = refl

pub none-filtered : {X : Type 0} (p q : X → Bool) → ((x : X) → q x ≡ true → p x ≡ false) → (xs : List X) → list_any p (filter q xs) ≡ false
none-filtered p q other [] = refl
none-filtered p q other (x ∷ xs) =
    any-filter p q (x ∷ xs) ∙ or_from _ _ (and-none _ _ (other x)) (sym (any-filter p q xs) ∙ none-filtered p q other xs)

pub filter-any : {X : Type 0} (p q : X → Bool) (xs : List X) → list_any p xs ≡ false → list_any p (filter q xs) ≡ false
filter-any p q xs none = any-filter p q xs ∙ fewer-any _ _ (λ x miss. and_right (q x) (p x) miss) _ none

-- ---- whether anything passes

abbrev pub is_filled : {X : Type 0} → List X → Bool
is_filled [] = false
is_filled (x ∷ xs) = true

pub any-filled : {X : Type 0} (test : X → Bool) (xs : List X) → list_any test xs ≡ is_filled (filter test xs)
any-filled test [] = refl
any-filled test (x ∷ xs) = elim (cases_Bool (test x)) [
  | inl hit ↦ rw hit
  | inr miss ↦ rw miss (any-filled test xs)
]

not-filled : {X : Type 0} (xs : List X) → is_filled xs ≡ false → xs ≡ []
not-filled [] e = refl
not-filled (x ∷ xs) e = absurd cc

pub no-filter : {X : Type 0} (test : X → Bool) (xs : List X) → list_any test xs ≡ false → filter test xs ≡ []
no-filter test xs none = not-filled _ (sym (any-filled test xs) ∙ none)

pub none-any : {X : Type 0} (test : X → Bool) (xs : List X) → filter test xs ≡ [] → list_any test xs ≡ false
none-any test xs e = any-filled test xs ∙ ap is_filled e

-- ---- what fails a test

abbrev pub others : {X : Type 0} → (X → Bool) → X → Bool
others test x = not (test x)

pub others-none : {X : Type 0} (test : X → Bool) (xs : List X) → list_any test (filter (others test) xs) ≡ false
others-none test xs = none-filtered test (others test) (λ x e. not-true _ e) xs

pub none-of-others : {X : Type 0} (test : X → Bool) (xs : List X) → filter test (filter (others test) xs) ≡ []
none-of-others test xs = no-filter test (filter (others test) xs) (others-none test xs)

-- filtering a second time changes nothing
pub others-twice : {X : Type 0} (test : X → Bool) (xs : List X) → filter (others test) (filter (others test) xs) ≡ filter (others test) xs
others-twice test xs = filter-filter (others test) (others test) xs ∙ filter_agree _ _ (λ x. and_self (others test x)) _
