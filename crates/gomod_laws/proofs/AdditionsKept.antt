-- What a list keeps, less what a main file excludes.
use Rattle.std.proofs.Common.{◌≡◌, ◌⊎◌, Bool, true, false, cond, not, List, [], ◌∷◌, Contains, filter, refl, sym, subst, inl, inr}
use Rattle.std.proofs.lemmas.Bool.{false≢true}
use Rattle.gm_name.specs.ModuleVersion.{ModuleVersion}
use Rattle.gm_file.proofs.Members.{contains-tells}
use Rattle.gm_file.specs.Main.{Main, is_excluded, without_excluded}
use Rattle.gm_graph_select.proofs.Ascending.{member_cases, member_head, member_tail, no_member}

-- ---- members of a filtered list

module _ {X : Type 0} (p : X → Bool) where
  pub from_filtered : (xs : List X) (x : X) → Contains (filter p xs) x → Contains xs x × (p x ≡ true)
  from_filtered [] x there = absurd (no_member x there)
  from_filtered (y ∷ xs) x there = by_test _ refl (from_filtered xs x) there
    where
      by_test : (b : Bool) → p y ≡ b → (Contains (filter p xs) x → Contains xs x × (p x ≡ true))
          → Contains (cond b (y ∷ filter p xs) (filter p xs)) x → Contains (y ∷ xs) x × (p x ≡ true)
      by_test true e rest inside = elim (member_cases y x _ inside) [
        | inl is ↦ (
          subst (λ z. Contains (y ∷ xs) z) is (member_head y xs),
          subst (λ z. p z ≡ true) is e,
        )
        | inr behind ↦ (let (among, passes) = rest behind in (member_tail y x xs among, passes))
      ]
      by_test false e rest inside = let (among, passes) = rest inside in (member_tail y x xs among, passes)

  pub in_filtered : (xs : List X) (x : X) → Contains xs x → p x ≡ true → Contains (filter p xs) x
  in_filtered [] x there passes = absurd (no_member x there)
  in_filtered (y ∷ xs) x there passes =
      by_test _ refl (member_cases y x xs there) (λ among. in_filtered xs x among passes)
    where
      by_test : (b : Bool) → p y ≡ b → (y ≡ x) ⊎ Contains xs x → (Contains xs x → Contains (filter p xs) x)
          → Contains (cond b (y ∷ filter p xs) (filter p xs)) x
      by_test true e (inl is) rest = subst (λ z. Contains (y ∷ filter p xs) z) is (member_head y _)
      by_test true e (inr among) rest = member_tail y x _ (rest among)
      by_test false e (inl is) rest =
          absurd (false≢true (subst (λ b. b ≡ true) e (subst (λ z. p z ≡ true) (sym is) passes)))
      by_test false e (inr among) rest = rest among

-- ---- what is excluded

still_passes : {a b : Bool} → (b ≡ true → a ≡ true) → not a ≡ true → not b ≡ true
still_passes {b = true} more e = absurd (false≢true (rw (more refl) at e))
still_passes more e = refl

pub excluded_more : (first second : Main) → ((x : ModuleVersion) → Contains second.excludes x → Contains first.excludes x)
    → (x : ModuleVersion) → is_excluded second x ≡ true → is_excluded first x ≡ true
excluded_more first second excludes x is =
    (contains-tells x _ _ refl).1
    (excludes x ((contains-tells x _ _ refl).0 is))

-- A longer list keeps more, and so does a list of which less is excluded.
pub kept_more : (first second : Main) → ((x : ModuleVersion) → Contains second.excludes x → Contains first.excludes x)
    → (xs ys : List ModuleVersion) (x : ModuleVersion) → (Contains xs x → Contains ys x)
    → Contains (without_excluded first xs) x → Contains (without_excluded second ys) x
kept_more first second excludes xs ys x more there =
    let (among, passes) = from_filtered (λ y. not (is_excluded first y)) _ x there in
    in_filtered (λ y. not (is_excluded second y)) _ x (more among) (still_passes (excluded_more first second excludes x) passes)
