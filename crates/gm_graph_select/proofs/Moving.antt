-- Numbers in ascending order that are moved to the front, each once.
use Rattle.std.proofs.Common.{◌≡◌, ◌≢◌, ◌+◌, ◌-◌, ◌<◌, ◌≤◌, ◌∙◌, ℕ, zero, suc, List, [], ◌∷◌, ◌++◌, Contains, ap, arith, drop, get_or, inl, inr, length, set, sym, take}
use Rattle.std.specs.declared.cmp.Ordering.TheVariants.{Less}
use Rattle.std.specs.List.Sorted.{IsNonDecreasing}
use Rattle.std.specs.Ordering.{nat_cmp}
use Rattle.std.proofs.lemmas.Bool.{cases_lt}
use Rattle.std.proofs.lemmas.List.{drop-drop, drop-set-lt, drop_more, get_or-take, get_or_default, length-set, length-take-le, take_more, take_more_set}
use Rattle.std.proofs.lemmas.List.Elements.{Contains-append_left, Contains-get_or, Contains-push_cases}
use Rattle.gm_graph_select.specs.Order.{HaveSame, IsAscending}
use Rattle.gm_graph_select.proofs.Ascending.{pairs_append, same_append}
use Rattle.gm_name.proofs.NumericIdentifiers.{cmp-lt}
use Rattle.gm_name.proofs.Precedence.{number-less}

-- ---- lists that are the same from a place on

module _ {T : Type 0} (now old : List T) (i : ℕ) (rest : drop i now ≡ drop i old) where
  -- What stands there.
  pub same_here : (d : T) → i < length now → i < length old → get_or now i d ≡ get_or old i d
  same_here d first inside = first_is (get_or now i d) (get_or old i d) (drop (i + 1) now) (drop (i + 1) old)
      (sym (drop_more now i d first) ∙ rest ∙ drop_more old i d inside)
    where
      first_is : (a b : T) (xs ys : List T) → a ∷ xs ≡ b ∷ ys → a ≡ b
      first_is a b xs ys e = cc

  -- What comes later.
  pub same_later : (j : ℕ) → i ≤ j → drop j now ≡ drop j old
  same_later j le =
      let at : i + (j - i) ≡ j = omega (arith, le) in
      rw⁻¹ at
      (sym (drop-drop (j - i) i now) ∙ ap (λ (xs : List T). drop (j - i) xs) rest ∙ drop-drop (j - i) i old)

-- ---- numbers that were moved

-- The numbers before a place are at the front, each once, and the others have not moved.
pub record AreMoved (old now : List ℕ) (place count : ℕ) : Type 0 where
  pub few : count ≤ place
  pub size : length now ≡ length old
  pub ascending : IsAscending nat_cmp (take count now)
  pub members : HaveSame (take place old) (take count now)
  pub rest : drop place now ≡ drop place old

module _ {old now : List ℕ} {place count : ℕ} (are : AreMoved old now place count) (inside : place < length old) where
  abbrev number : ℕ
  number = get_or now place 0

  one_more : take (place + 1) old ≡ take place old ++ number ∷ []
  one_more = take_more old place 0 inside
      ∙ ap (λ (n : ℕ). take place old ++ n ∷ []) (sym (same_here now old place are.rest 0 (omega (arith, inside, are.size)) inside))

  -- The number is the last of those at the front.
  pub one_again : 0 < count → get_or now (count - 1) 0 ≡ number → AreMoved old now (place + 1) count
  one_again some is = record {
    few = omega (arith, are.few);
    size = are.size;
    ascending = are.ascending;
    members = rw one_more both;
    rest = same_later now old place are.rest (place + 1) (omega arith);
  }
    where
      there : Contains (take count now) number
      there = rw⁻¹ (get_or-take count now (count - 1) 0 (omega (arith, some)) ∙ is)
          (Contains-get_or (take count now) (count - 1) 0 (omega (arith, some, are.few, are.size, inside, length-take-le count now)))

      both : HaveSame (take place old ++ number ∷ []) (take count now)
      both x = (
        (λ h. elim (Contains-push_cases (take place old) number x h) [
          | inl before ↦ (are.members x).0 before
          | inr same ↦ rw⁻¹ same there
        ]),
        (λ h. Contains-append_left (take place old) (number ∷ []) x ((are.members x).1 h)),
      )

  -- The number is another one.
  pub one_moved : IsNonDecreasing old → ((0 < count) → get_or now (count - 1) 0 ≢ number) → AreMoved old (set now count number) (place + 1) (count + 1)
  one_moved sorted other =
      let fits : count < length now = omega (arith, are.few, are.size, inside) in
      let front : take (count + 1) (set now count number) ≡ take count now ++ number ∷ [] = take_more_set now count number fits in
      record {
        few = omega (arith, are.few);
        size = length-set now count number ∙ are.size;
        ascending = rw front
            (pairs_append (λ (a b : ℕ). nat_cmp a b ≡ Less) (take count now) (number ∷ []) are.ascending
            (λ i j d lt below. absurd (omega (arith, lt, below))) between);
        members = rw one_more
            (rw front
            (same_append (take place old) (take count now) (number ∷ []) (number ∷ []) are.members (λ x. ((λ h. h), (λ h. h)))));
        rest = drop-set-lt (place + 1) now count number (omega (arith, are.few)) ∙ same_later now old place are.rest (place + 1) (omega arith);
      }
    where
      front_size : length (take count now) ≡ count
      front_size = length-take-le count now (omega (arith, are.few, are.size, inside))

      at_most : (x : ℕ) → Contains (take count now) x → x ≤ number
      at_most x h =
          let (k, below, is) = (are.members x).1 h in
          let k_below : k < place = omega (arith, below, length-take-le place old (omega (arith, inside))) in
          let up : get_or old k x ≤ get_or old place x = sorted k place x (omega (arith, k_below)) inside in
          let here : get_or now place x ≡ get_or old place x = same_here now old place are.rest x (omega (arith, inside, are.size)) inside in
          omega (arith, up, here, is, get_or-take place old k x k_below, get_or_default now place x 0 (omega (arith, inside, are.size)))

      last : 0 < count → get_or now (count - 1) 0 < number
      last some =
          let there : Contains (take count now) (get_or (take count now) (count - 1) 0) =
          Contains-get_or (take count now) (count - 1) 0 (omega (arith, some, front_size)) in
          let most = at_most (get_or (take count now) (count - 1) 0) there in
          let is = get_or-take count now (count - 1) 0 (omega (arith, some)) in
          let differs = other some in
          omega (arith, most, is, differs)

      below_number : (x : ℕ) → Contains (take count now) x → x < number
      below_number x (k, below, is) =
          let some : 0 < count = omega (arith, below, front_size) in
          let top = last some in
          let same = get_or-take count now (count - 1) x (omega (arith, some)) in
          let default = get_or_default now (count - 1) x 0 (omega (arith, some, are.few, are.size, inside)) in
          elim (cases_lt k (count - 1)) [
            | inl lt ↦ (let up = number-less (get_or (take count now) k x) (get_or (take count now) (count - 1) x)
                (are.ascending k (count - 1) x lt (omega (arith, some, front_size))) in
                omega (arith, up, is, same, default, top))
            | inr ge ↦ (let at : k ≡ count - 1 = omega (arith, ge, below, front_size) in
                let found : get_or (take count now) (count - 1) x ≡ x = rw⁻¹ at is in
                omega (arith, found, same, default, top))
          ]

      between : (x y : ℕ) → Contains (take count now) x → Contains (number ∷ []) y → nat_cmp x y ≡ Less
      between x y h (zero, below, is) = rw⁻¹ is (cmp-lt x number (below_number x h))
      between x y h (suc k, below, is) = absurd (omega (arith, below))
