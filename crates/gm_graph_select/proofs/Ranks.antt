-- The ranks of vertices: numbering, sorting, and what is then known of ranks.
use Rattle.std.proofs.Common.{◌≡◌, ◌≢◌, ◌⊎◌, ◌+◌, ◌<◌, ◌≤◌, ◌↔◌, ℕ, Bool, false, List, [], ◌∷◌, ◌++◌, length, map, set, take, get_or, Contains, append_assoc, ap, ap₂, ◌∙◌, sym, refl, inl, inr, arith, slice_index}
use Rattle.std.specs.Prelude.{All, if◌then◌else◌}
use Rattle.std.specs.declared.cmp.Ordering.{Ordering}
use Rattle.std.specs.declared.cmp.Ordering.TheVariants.{Less, Equal, Greater}
use Rattle.std.specs.List.{IsDistinct}
use Rattle.std.specs.List.Sorted.{IsPermutation, IsSorted}
use Rattle.std.specs.Ordering.{is_eq, is_lt, nat_cmp, ordering_then}
use Rattle.std.proofs.lemmas.Bool.{cases_Bool, cases_eq, false≢true}
use Rattle.std.proofs.lemmas.List.{get_or-set_other, get_or-set_same, get_or_append_left, get_or_at, get_or_push, length-append, length-map, length-take-le, length_push, take_more}
use Rattle.std.proofs.lemmas.List.Elements.{All-contains, Contains-append_left, Contains-get_or, Contains-push, Contains-push_cases}
use Rattle.std.proofs.lemmas.List.Quantifiers.{all_pairs_push}
use Rattle.std.proofs.lemmas.List.Sorted.{Contains-permutation, IsPermutation-sym, length_permutation}
use Rattle.std.proofs.lemmas.Map.Keys.{IsDistinct-IsPermutation, IsDistinct-from_apart, apart_from_distinct}
use Rattle.gm_name.specs.ModuleVersion.{ModuleVersion, module_at, pair_cmp, pair_eq, pair_ties, pair_total}
use Rattle.gm_graph_select.specs.declared.ranking.Numbered.{Numbered}
use Rattle.gm_graph_select.specs.Private.Marking.{HasMark}
use Rattle.gm_graph_select.specs.Order.{IsAscending}
use Rattle.gm_graph_select.specs.Private.Ranking.{AreMarkedModules, IsMarkedModule, IsPlaced, IsRanked}
use Rattle.gm_graph_select.proofs.Ascending.{member_cases, pairs_map}
use Rattle.gm_graph_select.proofs.RankedLists.{AreRanks, from_mapped, in_mapped}
use Rattle.gm_graph_select.proofs.Marks.{marked_inside}
use Rattle.gm_graph_select.proofs.Sorts.{keys_ascend, ties_flip}

abbrev vertex_of : Numbered → ModuleVersion
vertex_of one = one.vertex

abbrev same_vertex : Numbered → Numbered → Bool
same_vertex a b = is_eq (pair_cmp a.vertex b.vertex)

-- ---- ranks, one vertex at a time

module _ (vertices : List ModuleVersion) (ranks : List ℕ) (next one : Numbered) (inside : next.number < length ranks) where
  pub rank_here : one.number ≡ next.number → one.vertex ≡ next.vertex → IsRanked (vertices ++ next.vertex ∷ []) (set ranks next.number (length vertices)) one
  rank_here e f =
      let new = set ranks next.number (length vertices) in
      let rank : slice_index new one.number ≡ length vertices =
      ap (λ (n : ℕ). get_or new n 0) e ∙ get_or-set_same ranks next.number (length vertices) 0 inside in
      record {
        within = omega (arith, rank, length_push vertices next.vertex);
        is = ap (λ (n : ℕ). module_at (vertices ++ next.vertex ∷ []) n) rank ∙ get_or_push vertices next.vertex ([], []) (length vertices) refl ∙ sym f;
      }

  rank_kept : one.number ≢ next.number → IsRanked vertices ranks one → IsRanked (vertices ++ next.vertex ∷ []) (set ranks next.number (length vertices)) one
  rank_kept apart so =
      let rank : slice_index (set ranks next.number (length vertices)) one.number ≡ slice_index ranks one.number =
      get_or-set_other ranks next.number one.number (length vertices) 0 apart in
      record {
        within = omega (arith, rank, so.within, length_push vertices next.vertex);
        is = ap (λ (n : ℕ). module_at (vertices ++ next.vertex ∷ []) n) rank
            ∙ get_or_append_left vertices (next.vertex ∷ []) ([], []) (slice_index ranks one.number) so.within ∙ so.is;
      }

  -- A vertex that has its rank keeps it.
  pub rank_more : (one.number ≡ next.number → one.vertex ≡ next.vertex) → IsRanked vertices ranks one
      → IsRanked (vertices ++ next.vertex ∷ []) (set ranks next.number (length vertices)) one
  rank_more tied so = elim (cases_eq one.number next.number) [
    | inl e ↦ rank_here e (tied e)
    | inr apart ↦ rank_kept apart so
  ]

-- ---- the ranking so far

-- It has fewer vertices than all if some are left.
pub fewer : (all : List Numbered) (before : List ModuleVersion) (rest : List Numbered)
    → before ++ map vertex_of rest ≡ map vertex_of all → length before + length rest ≡ length all
fewer all before rest is = sym (ap (λ (n : ℕ). length before + n) (length-map rest vertex_of))
    ∙ sym (length-append before (map vertex_of rest)) ∙ ap (λ (xs : List ModuleVersion). length xs) is
    ∙ length-map all vertex_of

pub next_vertices : (all : List Numbered) (before : List ModuleVersion) (next : Numbered) (rest : List Numbered)
    → before ++ map vertex_of (next ∷ rest) ≡ map vertex_of all
    → (before ++ next.vertex ∷ []) ++ map vertex_of rest ≡ map vertex_of all
next_vertices all before next rest is = append_assoc before (next.vertex ∷ []) (map vertex_of rest) ∙ is

-- After the next vertex each one has its rank or is left.
pub next_ranked : (all : List Numbered) (before : List ModuleVersion) (ranks : List ℕ) (next : Numbered)
    (rest : List Numbered) → ((a b : Numbered) → Contains all a → Contains all b → a.number ≡ b.number → a.vertex ≡ b.vertex)
    → Contains all next → next.number < length ranks
    → (x : Numbered) → Contains all x → IsRanked before ranks x ⊎ Contains (next ∷ rest) x
    → IsRanked (before ++ next.vertex ∷ []) (set ranks next.number (length before)) x ⊎ Contains rest x
next_ranked all before ranks next rest once in_all inside x there so = elim so [
  | inl ranked ↦ inl (rank_more before ranks next x inside (once x next there in_all) ranked)
  | inr left ↦ elim (member_cases next x rest left) [
    | inl same ↦ inl (rank_here before ranks next x inside (ap (λ (one : Numbered). one.number) (sym same)) (ap (λ (one : Numbered). one.vertex) (sym same)))
    | inr later ↦ inr later
  ]
]

-- ---- the marked modules so far

module _ {front : List ModuleVersion} {marks : List Bool} {all : List Numbered} (x : ModuleVersion) (are : AreMarkedModules front marks all) where
  wider : (one : Numbered) → IsPlaced front marks one → IsPlaced (front ++ x ∷ []) marks one
  wider one placed = record {
    within = omega (arith, placed.within, length_push front x);
    marked = placed.marked;
    is = placed.is ∙ sym (get_or_append_left front (x ∷ []) ([], []) one.number placed.within);
  }

  narrower : (one : Numbered) → IsPlaced (front ++ x ∷ []) marks one → one.number ≢ length front → IsPlaced front marks one
  narrower one placed apart =
      let within : one.number < length front = omega (arith, placed.within, apart, length_push front x) in
      record {
        within = within;
        marked = placed.marked;
        is = placed.is ∙ get_or_append_left front (x ∷ []) ([], []) one.number within;
      }

  -- One more module that is not marked.
  passed_over : (HasMark marks (length front) → ⊥) → AreMarkedModules (front ++ x ∷ []) marks all
  passed_over unmarked = record {
    few = omega (arith, are.few, length_push front x);
    each = λ one. (
      (λ h. wider one ((are.each one).0 h)),
      (λ placed. elim (cases_eq one.number (length front)) [
        | inl same ↦ absurd (unmarked (rw⁻¹ same placed.marked))
        | inr apart ↦ (are.each one).1 (narrower one placed apart)
      ]),
    );
    ascending = are.ascending;
  }

  -- One more that is.
  numbered_too : (next : Numbered) → next.number ≡ length front → next.vertex ≡ x → HasMark marks (length front)
      → AreMarkedModules (front ++ x ∷ []) marks (all ++ next ∷ [])
  numbered_too next number_is vertex_is marked = record {
    few = omega (arith, are.few, length_push front x, length_push all next);
    each = λ one. (
      (λ h. elim (Contains-push_cases all next one h) [
        | inl old ↦ wider one ((are.each one).0 old)
        | inr new ↦ rw⁻¹ new last
      ]),
      (λ placed. elim (cases_eq one.number (length front)) [
        | inl same ↦ rw⁻¹ (is_next one placed same) (Contains-push all next)
        | inr apart ↦ Contains-append_left all (next ∷ []) one ((are.each one).1 (narrower one placed apart))
      ]),
    );
    ascending = all_pairs_push (λ (a b : Numbered). a.number < b.number) all next are.ascending (λ k d below. lower k d below);
  }
    where
      last : IsPlaced (front ++ x ∷ []) marks next
      last = record {
        within = omega (arith, number_is, length_push front x);
        marked = rw number_is marked;
        is = vertex_is ∙ sym (get_or_push front x ([], []) next.number (sym number_is));
      }

      is_next : (one : Numbered) → IsPlaced (front ++ x ∷ []) marks one → one.number ≡ length front → next ≡ one
      is_next one placed same =
          ap₂ (λ (y : ModuleVersion) (n : ℕ). record { vertex = y; number = n })
          (vertex_is ∙ sym (get_or_push front x ([], []) one.number (sym same)) ∙ sym placed.is) (number_is ∙ sym same)

      lower : All (λ (one : Numbered). one.number < next.number) all
      lower k d below =
          let placed = (are.each (get_or all k d)).0 (Contains-get_or all k d below) in
          omega (arith, placed.within, number_is)

  -- One more, by its mark.
  pub next_numbered : (next : Numbered) → next.number ≡ length front → next.vertex ≡ x
      → AreMarkedModules (front ++ x ∷ []) marks (if get_or marks next.number false then all ++ next ∷ [] else all)
  next_numbered next number_is vertex_is = elim (cases_Bool (get_or marks next.number false)) [
    | inl marked ↦ rw marked
        (numbered_too next number_is vertex_is (rw⁻¹ number_is marked))
    | inr not ↦ rw not
        (passed_over (λ marked. false≢true (sym not ∙ rw number_is marked)))
  ]

-- The next of the modules that are left.
pub next_module : (modules rest : List ModuleVersion) (x : ModuleVersion) (i : ℕ) → i ≤ length modules
    → take i modules ++ x ∷ rest ≡ modules → (i < length modules) × (length (take i modules) ≡ i)
    × (take (i + 1) modules ≡ take i modules ++ x ∷ [])
next_module modules rest x i within is = (inside, size, taken)
  where
    size : length (take i modules) ≡ i
    size = length-take-le i modules within

    inside : i < length modules
    inside = omega (arith, size, ap (λ (xs : List ModuleVersion). length xs) is, length-append (take i modules) (x ∷ rest))

    here : get_or modules i x ≡ x
    here = ap (λ (xs : List ModuleVersion). get_or xs i x) (sym is) ∙ get_or_at (take i modules) x rest x i size

    taken : take (i + 1) modules ≡ take i modules ++ x ∷ []
    taken = take_more modules i x inside ∙ ap (λ (y : ModuleVersion). take i modules ++ y ∷ []) here

-- ---- the marked modules in another order

module _ {modules : List ModuleVersion} {marks : List Bool} {all : List Numbered} (are : AreMarkedModules modules marks all) where
  -- Their vertices are distinct if the modules are.
  all_distinct : IsDistinct pair_eq modules → IsDistinct same_vertex all
  all_distinct distinct = IsDistinct-from_apart same_vertex all (λ i j d lt below.
      let a = get_or all i d in
      let b = get_or all j d in
      let first = (are.each a).0 (Contains-get_or all i d (omega arith)) in
      let second = (are.each b).0 (Contains-get_or all j d below) in
      rw (first.is, second.is, ← pair_ties) (apart_from_distinct pair_eq modules a.number b.number ([], []) distinct
      (are.ascending i j d lt below) second.within))

  module _ (ordered : List Numbered) (same : IsPermutation all ordered) where
    its_place : (one : Numbered) → Contains ordered one → IsPlaced modules marks one
    its_place one h = (are.each one).0 (Contains-permutation ordered all one (IsPermutation-sym all ordered same) h)

    its_entry : (one : Numbered) → IsPlaced modules marks one → Contains ordered one
    its_entry one placed = Contains-permutation all ordered one same ((are.each one).1 placed)

    pub few_ordered : length ordered ≤ length modules
    few_ordered = omega (arith, are.few, length_permutation all ordered same)

    pub numbers_within : All (λ (one : Numbered). one.number < length modules) ordered
    numbers_within k d below = (its_place (get_or ordered k d) (Contains-get_or ordered k d below)).within

    pub one_vertex_each : (a b : Numbered) → Contains ordered a → Contains ordered b → a.number ≡ b.number → a.vertex ≡ b.vertex
    one_vertex_each a b in_a in_b e = (its_place a in_a).is ∙ ap (λ (n : ℕ). module_at modules n) e ∙ sym (its_place b in_b).is

    pub marked_modules : (x : ModuleVersion) → Contains (map vertex_of ordered) x ↔ IsMarkedModule modules marks x
    marked_modules x = (there, back)
      where
        there : Contains (map vertex_of ordered) x → IsMarkedModule modules marks x
        there h =
            let (one, found, is) = from_mapped vertex_of ordered x h in
            let placed = its_place one found in
            (one.number, record { within = placed.within; marked = placed.marked; is = sym is ∙ placed.is })

        back : IsMarkedModule modules marks x → Contains (map vertex_of ordered) x
        back (number, placed) =
            let one : Numbered = record { vertex = x; number = number } in
            in_mapped vertex_of ordered one (its_entry one placed)

    pub ranks_are : (ranks : List ℕ) → All (IsRanked (map vertex_of ordered) ranks) ordered → length marks ≡ length modules
        → AreRanks modules marks (map vertex_of ordered) ranks
    ranks_are ranks each count number marked =
        let one : Numbered = record { vertex = module_at modules number; number = number } in
        All-contains (IsRanked (map vertex_of ordered) ranks) ordered one each
        (its_entry one (record { within = omega (arith, marked_inside marks number marked, count); marked = marked; is = refl }))

    -- ---- sorted vertices

    first_not_less : (r s : Ordering) → is_lt (ordering_then r s) ≡ false → is_lt r ≡ false
    first_not_less Less s e = cc
    first_not_less Equal s e = refl
    first_not_less Greater s e = refl

    -- Sorted, distinct vertices ascend.
    pub vertices_ascend : IsSorted (λ (a b : Numbered). ordering_then (pair_cmp a.vertex b.vertex)
        (nat_cmp a.number b.number)) ordered → IsDistinct pair_eq modules → IsAscending pair_cmp (map vertex_of ordered)
    vertices_ascend sorted distinct = pairs_map (λ x y. pair_cmp x y ≡ Less) vertex_of ordered
        (keys_ascend pair_total vertex_of ordered (λ k d inside. first_not_less _ _ (sorted k d (omega arith) inside))
        (IsDistinct-IsPermutation same_vertex (λ a b. ties_flip pair_total a.vertex b.vertex) all ordered same (all_distinct distinct)))
