-- Members of lists, and tests of them.
use Rattle.std.proofs.Common.{◌≡◌, ◌&&◌, ◌||◌, ◌⊎◌, ℕ, zero, suc, Bool, true, false, List, [], ◌∷◌, Contains, ap, arith, inl, inr, nat_eq, refl, subst, sym, ◌∙◌}
use Rattle.std.specs.Prelude.{AllPairs}
use Rattle.std.specs.Cmp.Lexicographic.{nat_list_eq_equiv, pointwise, same_text}
use Rattle.std.specs.List.{All, AllByRecursion}
use Rattle.std.specs.declared.cmp.Ordering.{Ordering}
use Rattle.std.specs.declared.cmp.Ordering.TheVariants.{Less, Equal, Greater}
use Rattle.std.proofs.lemmas.Bool.{and_parts, false≢true, or_cases}
use Rattle.std.proofs.lemmas.List.{append-nil, append_assoc}
use Rattle.std.proofs.lemmas.List.Kept.{AllPairs-cons}
use Rattle.page_commands.specs.ModuleVersion.{ModuleVersion, pair_eq}

module _ {T : Type 0} where
  pub no_member : (x : T) → Contains [] x → ⊥
  no_member x there = omega (arith, there.1)

  pub member_cases : (y x : T) (xs : List T) → Contains (y ∷ xs) x → (y ≡ x) ⊎ Contains xs x
  member_cases y x xs (zero, below, at) = inl at
  member_cases y x xs (suc k, below, at) = inr (k, omega (arith, below), at)

  pub member_head : (x : T) (xs : List T) → Contains (x ∷ xs) x
  member_head x xs = (0, omega arith, refl)

  pub member_tail : (x y : T) (xs : List T) → Contains xs y → Contains (x ∷ xs) y
  member_tail x y xs (k, below, at) = (suc k, omega (arith, below), at)

  abbrev pub every : (T → Bool) → List T → Bool
  every p [] = true
  every p (x ∷ xs) = p x && every p xs

  abbrev pub some : (T → Bool) → List T → Bool
  some p [] = false
  some p (x ∷ xs) = p x || some p xs

  pub every_one : (p : T → Bool) (xs : List T) → every p xs ≡ true → (x : T) → Contains xs x → p x ≡ true
  every_one p [] h x there = absurd (no_member x there)
  every_one p (y ∷ ys) h x there =
      let parts = and_parts (p y) (every p ys) h in
      elim (member_cases y x ys there) [
        | inl same ↦ subst (λ (z : T). p z ≡ true) same parts.0
        | inr later ↦ every_one p ys parts.1 x later
      ]

  some_later : (p : T → Bool) (y : T) (ys : List T) → (x : T) × Contains ys x × (p x ≡ true)
      → (x : T) × Contains (y ∷ ys) x × (p x ≡ true)
  some_later p y ys (x, there, is) = (x, member_tail y x ys there, is)

  pub some_one : (p : T → Bool) (xs : List T) → some p xs ≡ true → (x : T) × Contains xs x × (p x ≡ true)
  some_one p [] h = absurd (false≢true h)
  some_one p (y ∷ ys) h = elim (or_cases (p y) (some p ys) h) [
    | inl is ↦ (y, member_head y ys, is)
    | inr later ↦ some_later p y ys (some_one p ys later)
  ]

  all_so : (P : T → Type 0) (p : T → Bool) → ((x : T) → p x ≡ true → P x) → (xs : List T) → every p xs ≡ true → AllByRecursion P xs
  all_so P p so [] h = tt
  all_so P p so (x ∷ xs) h = let parts = and_parts (p x) (every p xs) h in (so x parts.0, all_so P p so xs parts.1)

  all_of : (P : T → Type 0) (xs : List T) → AllByRecursion P xs → All P xs
  all_of P [] h k d below = absurd (omega (arith, below))
  all_of P (x ∷ xs) h zero d below = h.0
  all_of P (x ∷ xs) h (suc k) d below = all_of P xs h.1 k d (omega (arith, below))

-- a list, however it is put together
pub ruleset appended = (append-nil, append_assoc)

-- ---- ascending lists

abbrev is_less : Ordering → Bool
is_less Less = true
is_less Equal = false
is_less Greater = false

less_so : (o : Ordering) → is_less o ≡ true → o ≡ Less
less_so Less h = refl
less_so Equal h = absurd (false≢true h)
less_so Greater h = absurd (false≢true h)

module _ {T : Type 0} (cmp : T → T → Ordering) where
  abbrev pub ascends : List T → Bool
  ascends [] = true
  ascends (x ∷ xs) = every (λ (y : T). is_less (cmp x y)) xs && ascends xs

  abbrev IsLess : T → T → Type 0
  IsLess x y = cmp x y ≡ Less

  pub below_all : (x : T) (xs : List T) → every (λ (y : T). is_less (cmp x y)) xs ≡ true → AllByRecursion (IsLess x) xs
  below_all x xs h = all_so (IsLess x) (λ (y : T). is_less (cmp x y)) (λ y is. less_so (cmp x y) is) xs h

  pub ascending : (xs : List T) → ascends xs ≡ true → AllPairs IsLess xs
  ascending [] h = λ i j d lt below. absurd (omega (arith, below))
  ascending (x ∷ xs) h =
      let parts = and_parts (every (λ (y : T). is_less (cmp x y)) xs) (ascends xs) h in
      AllPairs-cons IsLess x xs (all_of (IsLess x) xs (below_all x xs parts.0)) (ascending xs parts.1)

  abbrev placed_by : Ordering → T → T → List T → List T → List T
  placed_by Less x y ys rest = x ∷ y ∷ ys
  placed_by Equal x y ys rest = y ∷ ys
  placed_by Greater x y ys rest = y ∷ rest

  -- the element put in its place, if it is not there
  abbrev inserted : T → List T → List T
  inserted x [] = x ∷ []
  inserted x (y ∷ ys) = placed_by (cmp x y) x y ys (inserted x ys)

  abbrev pub sorted : List T → List T
  sorted [] = []
  sorted (x ∷ xs) = inserted x (sorted xs)

-- ---- texts and modules

pub text_itself : (t : List ℕ) → pointwise nat_eq t t ≡ true
text_itself t = nat_list_eq_equiv.refl t

pub text_same : (s t : List ℕ) → pointwise nat_eq s t ≡ true → s ≡ t
text_same s t h = same_text s t (sym h)

pub differ : (s t : List ℕ) → pointwise nat_eq s t ≡ false → s ≡ t → ⊥
differ s t unlike same = false≢true (sym unlike ∙ subst (λ (x : List ℕ). pointwise nat_eq s x ≡ true) same (text_itself s))

pub pair_itself : (x : ModuleVersion) → pair_eq x x ≡ true
pair_itself x = rw (text_itself x.0, text_itself x.1) refl

pub pair_same : (x y : ModuleVersion) → pair_eq x y ≡ true → x ≡ y
pair_same x y h =
    let p = and_parts (pointwise nat_eq x.0 y.0) (pointwise nat_eq x.1 y.1) h in
    ap (λ (t : List ℕ). (t, x.1)) (text_same x.0 y.0 p.0) ∙ ap (λ (t : List ℕ). (y.0, t)) (text_same x.1 y.1 p.1)
