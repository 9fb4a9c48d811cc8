-- Members of lists that are written out, and how many different modules such a list has.
use Rattle.std.proofs.Common.{◌≡◌, ◌∙◌, ◌↔◌, ◌≤◌, ◌⊎◌, ◌&&◌, ℕ, Bool, zero, suc, true, false, List, [], ◌∷◌, Contains, ap, ap₂, arith, inl, inr, length, nat_eq, refl, subst, sym}
use Rattle.std.specs.Prelude.{AllPairs}
use Rattle.std.specs.Cmp.{IsEquivalence, IsTotalOrder, decided}
use Rattle.std.specs.Cmp.Lexicographic.{nat_list_eq_equiv, pointwise, same_text}
use Rattle.std.specs.Ordering.{ordering_reverse}
use Rattle.std.specs.declared.cmp.Ordering.{Ordering}
use Rattle.std.specs.declared.cmp.Ordering.TheVariants.{Less, Equal, Greater}
use Rattle.std.specs.List.{All, AllByRecursion, IsDistinct}
use Rattle.std.proofs.lemmas.Bool.{and_parts, false≢true}
use Rattle.std.proofs.lemmas.List.Kept.{AllPairs-cons}
use Rattle.std.proofs.lemmas.Map.Made.{length-le_from_is_member}
use Rattle.std.proofs.lemmas.Map.Views.{Contains-from_any, list_any-from_Contains}
use Rattle.page.specs.ModuleVersion.{ModuleVersion, pair_eq}

-- ---- members

module _ {X : Type 0} where
  pub no_member : (x : X) → Contains [] x → ⊥
  no_member x there = omega (arith, there.1)

  pub member_cases : (y x : X) (xs : List X) → Contains (y ∷ xs) x → (y ≡ x) ⊎ Contains xs x
  member_cases y x xs (zero, below, at) = inl at
  member_cases y x xs (suc k, below, at) = inr (k, omega (arith, below), at)

  -- what holds of each member that is written out holds of every member
  pub each_member : (P : X → Type 0) (xs : List X) → AllByRecursion P xs → (x : X) → Contains xs x → P x
  each_member P [] h x there = absurd (no_member x there)
  each_member P (y ∷ xs) h x there = elim (member_cases y x xs there) [
    | inl same ↦ subst P same h.0
    | inr later ↦ each_member P xs h.1 x later
  ]

  all_of : (P : X → Type 0) (xs : List X) → AllByRecursion P xs → All P xs
  all_of P [] h k d below = absurd (omega (arith, below))
  all_of P (x ∷ xs) h zero d below = h.0
  all_of P (x ∷ xs) h (suc k) d below = all_of P xs h.1 k d (omega (arith, below))

  -- each element is so related to each later one, written out
  abbrev pub Pairs : (X → X → Type 0) → List X → Type 0
  Pairs R [] = Unit {0}
  Pairs R (x ∷ xs) = AllByRecursion (R x) xs × Pairs R xs

  pub pairs_of : (R : X → X → Type 0) (xs : List X) → Pairs R xs → AllPairs R xs
  pairs_of R [] h = λ i j d lt below. absurd (omega (arith, below))
  pairs_of R (x ∷ xs) h = AllPairs-cons R x xs (all_of (R x) xs h.0) (pairs_of R xs h.1)

-- ---- ascending lists with the same members are equal

not_both : (o : Ordering) → o ≡ ordering_reverse o → o ≡ Less → ⊥
not_both Less turned e = cc turned
not_both Equal turned e = cc e
not_both Greater turned e = cc e

module _ {T : Type 0} where
  pairs_tail : (R : T → T → Type 0) (x : T) (xs : List T) → AllPairs R (x ∷ xs) → AllPairs R xs
  pairs_tail R x xs h i j d lt below = h (suc i) (suc j) d (omega (arith, lt)) (omega (arith, below))

  pairs_head : (R : T → T → Type 0) (x y : T) (xs : List T) → AllPairs R (x ∷ xs) → Contains xs y → R x y
  pairs_head R x y xs h (k, below, at) = subst (λ (z : T). R x z) at (h 0 (suc k) y (omega arith) (omega (arith, below)))

  pub member_head : (x : T) (xs : List T) → Contains (x ∷ xs) x
  member_head x xs = (0, omega arith, refl)

  pub member_tail : (x y : T) (xs : List T) → Contains xs y → Contains (x ∷ xs) y
  member_tail x y xs (k, below, at) = (suc k, omega (arith, below), at)

module _ {T : Type 0} {cmp : T → T → Ordering} (total : IsTotalOrder cmp) where
  less_itself : (x : T) → cmp x x ≡ Less → ⊥
  less_itself x h = not_both (cmp x x) (total.antisymm x x) h

  abbrev IsLess : T → T → Type 0
  IsLess a b = cmp a b ≡ Less

  -- the first of two such lists is the first of the other
  first_is : (x y : T) (xs ys : List T) → AllPairs IsLess (x ∷ xs) → AllPairs IsLess (y ∷ ys) → Contains (x ∷ xs) y → Contains (y ∷ ys) x → x ≡ y
  first_is x y xs ys up down here there = elim (member_cases x y xs here) [
    | inl is ↦ is
    | inr later ↦ elim (member_cases y x ys there) [
      | inl is ↦ sym is
      | inr other ↦ absurd (less_itself x (total.trans x y x (pairs_head IsLess x y xs up later) (pairs_head IsLess y x ys down other)))
    ]
  ]

  -- a later member is not the first
  later_is : (x z : T) (xs ys : List T) → AllPairs IsLess (x ∷ xs) → Contains xs z → Contains (x ∷ ys) z → Contains ys z
  later_is x z xs ys up inside there = elim (member_cases x z ys there) [
    | inl is ↦ absurd (less_itself x (subst (IsLess x) (sym is) (pairs_head IsLess x z xs up inside)))
    | inr rest ↦ rest
  ]

  pub same_lists : (xs ys : List T) → AllPairs IsLess xs → AllPairs IsLess ys → ((z : T) → Contains xs z ↔ Contains ys z) → xs ≡ ys
  same_lists [] [] up down h = refl
  same_lists [] (y ∷ ys) up down h = absurd (no_member y ((h y).1 (member_head y ys)))
  same_lists (x ∷ xs) [] up down h = absurd (no_member x ((h x).0 (member_head x xs)))
  same_lists (x ∷ xs) (y ∷ ys) up down h =
      let head : x ≡ y = first_is x y xs ys up down ((h y).1 (member_head y ys)) ((h x).0 (member_head x xs)) in
      let down_x : AllPairs IsLess (x ∷ ys) = subst (λ (w : T). AllPairs IsLess (w ∷ ys)) (sym head) down in
      let there : (z : T) → Contains xs z → Contains ys z =
      λ z inside. later_is x z xs ys up inside (subst (λ (w : T). Contains (w ∷ ys) z) (sym head) ((h z).0 (member_tail x z xs inside))) in
      let back : (z : T) → Contains ys z → Contains xs z =
      λ z inside. later_is x z ys xs down_x inside ((h z).1 (member_tail y z ys inside)) in
      ap₂ (λ (z : T) (zs : List T). z ∷ zs) head (same_lists xs ys (pairs_tail IsLess x xs up) (pairs_tail IsLess y ys down) (λ z. (there z, back z)))

-- ---- different texts and modules

pub text_itself : (a : List ℕ) → pointwise nat_eq a a ≡ true
text_itself a = nat_list_eq_equiv.refl a

pair_itself : (a : ModuleVersion) → pair_eq a a ≡ true
pair_itself a = rw (text_itself a.0, text_itself a.1) refl

left_true : (p q : Bool) → (p && q) ≡ true → p ≡ true
left_true p q e = (and_parts p q e).0

right_true : (p q : Bool) → (p && q) ≡ true → q ≡ true
right_true p q e = (and_parts p q e).1

ruleset both_true = (left_true, right_true)

pub pair_same : (a b : ModuleVersion) → pair_eq a b ≡ true → a ≡ b
pair_same a b e =
    let paths : pointwise nat_eq a.0 b.0 ≡ true = search both_true in
    let versions : pointwise nat_eq a.1 b.1 ≡ true = search both_true in
    ap (λ (x : List ℕ). (x, a.1)) (same_text a.0 b.0 (sym paths))
    ∙ ap (λ (x : List ℕ). (b.0, x)) (same_text a.1 b.1 (sym versions))

pairs_equivalence : IsEquivalence pair_eq
pairs_equivalence = decided pair_eq (λ a b. (pair_same a b, λ same. subst (λ (x : ModuleVersion). pair_eq a x ≡ true) same (pair_itself a)))

-- different members of a list are no more than it has
pub few_members : (xs ys : List ModuleVersion) → IsDistinct pair_eq xs → ((x : ModuleVersion) → Contains xs x → Contains ys x)
    → length xs ≤ length ys
few_members xs ys distinct within =
    length-le_from_is_member pairs_equivalence xs ys distinct
    (λ q found. list_any-from_Contains pairs_equivalence q ys (within q (Contains-from_any pair_same q xs found)))

pub differ : (a b : List ℕ) → pointwise nat_eq a b ≡ false → a ≡ b → ⊥
differ a b unlike same = false≢true (sym unlike ∙ subst (λ (x : List ℕ). pointwise nat_eq a x ≡ true) same (text_itself a))
