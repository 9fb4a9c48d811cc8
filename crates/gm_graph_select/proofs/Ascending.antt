-- Ascending lists with the same members are equal.
use Rattle.std.proofs.Common.{◌≡◌, zero, suc, List, [], ◌∷◌, ◌++◌, Contains, ap, sym, refl, inl, inr, ◌⊎◌, ◌↔◌, ◌<◌, length, map, arith}
use Rattle.std.specs.Prelude.{AllPairs}
use Rattle.std.specs.Cmp.{IsTotalOrder}
use Rattle.std.specs.declared.cmp.Ordering.{Ordering}
use Rattle.std.specs.declared.cmp.Ordering.TheVariants.{Less}
use Rattle.std.proofs.lemmas.Cmp.{tied_itself}
use Rattle.std.proofs.lemmas.List.{get_or-map, length-map}
use Rattle.std.proofs.lemmas.List.Elements.{Contains-append_cases, Contains-append_left, Contains-append_right, Contains-get_or}
use Rattle.std.proofs.lemmas.List.Kept.{AllPairs-cons}
use Rattle.gm_graph_select.specs.Order.{HaveSame, IsAscending}

-- ---- pairs of a list

module _ {T : Type 0} where
  pub pairs_tail : (R : T → T → Type 0) (x : T) (xs : List T) → AllPairs R (x ∷ xs) → AllPairs R xs
  pairs_tail R x xs h i j d lt below = h (suc i) (suc j) d (omega (arith, lt)) (omega (arith, below))

  pub pairs_head : (R : T → T → Type 0) (x y : T) (xs : List T) → AllPairs R (x ∷ xs) → Contains xs y → R x y
  pairs_head R x y xs h (k, below, at) = rw⁻¹ at (h 0 (suc k) y (omega arith) (omega (arith, below)))

  pub member_cases : (x y : T) (xs : List T) → Contains (x ∷ xs) y → (x ≡ y) ⊎ Contains xs y
  member_cases x y xs (zero, below, at) = inl at
  member_cases x y xs (suc k, below, at) = inr (k, omega (arith, below), at)

  pub member_head : (x : T) (xs : List T) → Contains (x ∷ xs) x
  member_head x xs = (0, omega arith, refl)

  pub member_tail : (x y : T) (xs : List T) → Contains xs y → Contains (x ∷ xs) y
  member_tail x y xs h = Contains-append_right (x ∷ []) xs y h

  pub no_member : (x : T) → Contains [] x → ⊥
  no_member x h = omega (arith, h.1)

  -- the member of a list of one
  pub one_member : (x y : T) → Contains (x ∷ []) y → x ≡ y
  one_member x y h = elim (member_cases x y [] h) [ inl is ↦ is | inr never ↦ absurd (no_member y never) ]

  -- a member before another one
  pub pairs_split : (R : T → T → Type 0) (before after : List T) (e x : T) → AllPairs R (before ++ e ∷ after) → Contains before x → R x e
  pairs_split R [] after e x h there = absurd (no_member x there)
  pairs_split R (b ∷ before) after e x h there = elim (member_cases b x before there) [
    | inl is ↦ rw⁻¹ is (pairs_head R b e (before ++ e ∷ after) h (Contains-append_right before (e ∷ after) e (member_head e after)))
    | inr rest ↦ pairs_split R before after e x (pairs_tail R b (before ++ e ∷ after) h) rest
  ]

-- ---- two lists

-- pairs of a mapped list
pub pairs_map : {X Y : Type 0} (R : Y → Y → Type 0) (f : X → Y) (xs : List X) → AllPairs (λ a b. R (f a) (f b)) xs → AllPairs R (map f xs)
pairs_map R f [] h i j d lt below = absurd (omega (arith, below))
pairs_map R f (x ∷ xs) h i j d lt below =
    let inside : j < length (x ∷ xs) = rw length-map at below in
    rw (get_or-map f (x ∷ xs) i x d (omega arith), get_or-map f (x ∷ xs) j x d inside) (h i j x lt inside)

-- one element before others
pub pairs_cons : {T : Type 0} (R : T → T → Type 0) (x : T) (xs : List T) → ((y : T) → Contains xs y → R x y) → AllPairs R xs → AllPairs R (x ∷ xs)
pairs_cons R x xs firsts rest = AllPairs-cons R x xs (λ k d below. firsts _ (Contains-get_or xs k d below)) rest

-- pairs within two lists and between them
pub pairs_append : {T : Type 0} (R : T → T → Type 0) (xs ys : List T) → AllPairs R xs → AllPairs R ys
    → ((x y : T) → Contains xs x → Contains ys y → R x y) → AllPairs R (xs ++ ys)
pairs_append R [] ys a b between = b
pairs_append R (x ∷ xs) ys a b between =
    pairs_cons R x (xs ++ ys) (λ y there. elim (Contains-append_cases xs ys y there) [
      | inl h ↦ pairs_head R x y xs a h
      | inr h ↦ between x y (member_head x xs) h
    ]) (pairs_append R xs ys (pairs_tail R x xs a) b (λ y z h k. between y z (member_tail x y xs h) k))

pub same_append : {T : Type 0} (xs ys us vs : List T) → HaveSame xs ys → HaveSame us vs → HaveSame (xs ++ us) (ys ++ vs)
same_append {T} xs ys us vs front back x = (
  along xs ys us vs (λ h. (front x).0 h) (λ h. (back x).0 h),
  along ys xs vs us (λ h. (front x).1 h) (λ h. (back x).1 h),
)
  where
    along : (olds news cs ds : List T) → (Contains olds x → Contains news x) → (Contains cs x → Contains ds x)
        → Contains (olds ++ cs) x → Contains (news ++ ds) x
    along olds news cs ds f g h = elim (Contains-append_cases olds cs x h) [
      | inl here ↦ Contains-append_left news ds x (f here)
      | inr later ↦ Contains-append_right news ds x (g later)
    ]

-- ---- ascending lists

module _ {T : Type 0} {cmp : T → T → Ordering} (total : IsTotalOrder cmp) where
  abbrev IsLess : T → T → Type 0
  IsLess a b = cmp a b ≡ Less

  pub less_itself : (x : T) → cmp x x ≡ Less → ⊥
  less_itself x h = cc (tied_itself total x)

  -- Behind the same first element are the members that the other list has there.
  behind : (x : T) (xs ys : List T) → IsAscending cmp (x ∷ xs) → ((z : T) → Contains (x ∷ xs) z → Contains (x ∷ ys) z)
      → (z : T) → Contains xs z → Contains ys z
  behind x xs ys up all z inside = elim (member_cases x z ys (all z (member_tail x z xs inside))) [
    | inl is ↦ absurd (less_itself x (rw (← is) at (pairs_head IsLess x z xs up inside)))
    | inr there ↦ there
  ]

  pub same_lists : (xs ys : List T) → IsAscending cmp xs → IsAscending cmp ys → ((z : T) → Contains xs z ↔ Contains ys z) → xs ≡ ys
  same_lists [] [] up down h = refl
  same_lists [] (y ∷ ys) up down h = absurd (no_member y ((h y).1 (member_head y ys)))
  same_lists (x ∷ xs) [] up down h = absurd (no_member x ((h x).0 (member_head x xs)))
  same_lists (x ∷ xs) (y ∷ ys) up down h = rw head (ap (λ (zs : List T). y ∷ zs) (same_lists xs ys (pairs_tail IsLess x xs up) (pairs_tail IsLess y ys down)
      (λ z. (behind y xs ys (rw head at up) (λ w. (rw head at h w).0) z, behind y ys xs down (λ w. (rw head at h w).1) z))))
    where
      under : cmp y x ≡ Less → (x ≡ y) ⊎ Contains xs y → x ≡ y
      under less (inl is) = is
      under less (inr there) = absurd (less_itself x (total.trans x y x (pairs_head IsLess x y xs up there) less))

      first : (y ≡ x) ⊎ Contains ys x → x ≡ y
      first (inl is) = sym is
      first (inr there) = under (pairs_head IsLess y x ys down there) (member_cases x y xs ((h y).1 (member_head y ys)))

      head : x ≡ y
      head = first (member_cases y x ys ((h x).0 (member_head x xs)))
