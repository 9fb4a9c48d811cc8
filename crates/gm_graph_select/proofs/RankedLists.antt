-- Lists and sources by ranks: they have the same edges, in ascending order.
use Rattle.std.proofs.Common.{◌≡◌, ◌+◌, ◌<◌, ℕ, zero, suc, Bool, true, false, List, [], ◌∷◌, Option, Some, None, length, map, get_or, Contains, ap, ap₂, ◌∙◌, sym, refl, inl, inr, arith, slice_index}
use Rattle.std.specs.Prelude.{⊤, All, AllPairs}
use Rattle.std.specs.declared.cmp.Ordering.{Ordering}
use Rattle.std.specs.declared.cmp.Ordering.TheVariants.{Less}
use Rattle.std.specs.Cmp.{IsTotalOrder, nat_cmp_total, Equal-is}
use Rattle.std.specs.Cmp.Lexicographic.{options_total}
use Rattle.std.specs.FinMap.{nat_cmp-IsAntisymmetric}
use Rattle.std.specs.List.{AllZip, IsDistinct}
use Rattle.std.specs.List.Sorted.{IsPermutation, IsSortedByKey}
use Rattle.std.specs.Option.{option_cmp, option_map}
use Rattle.std.specs.Ordering.{is_eq, is_lt, nat_cmp, ordering_then}
use Rattle.std.proofs.lemmas.Bool.{cases_Bool, false≢true}
use Rattle.std.proofs.lemmas.Cmp.{tied_itself}
use Rattle.std.proofs.lemmas.List.{get_or-map, length-map}
use Rattle.std.proofs.lemmas.List.Elements.{All-cons, All-contains, All-head, All-nil, All-tail, AllZip-get_or, Contains-get_or, length_all_zip}
use Rattle.std.proofs.lemmas.List.Sorted.{All-permutation, Contains-permutation, IsPermutation-map, IsPermutation-sym}
use Rattle.std.proofs.lemmas.Map.Keys.{IsDistinct-IsPermutation, IsDistinct-from_apart, apart_from_distinct}
use Rattle.gm_name.specs.ModuleVersion.{ModuleVersion, module_at, pair_cmp}
use Rattle.gm_name.proofs.Precedence.{number-less}
use Rattle.gm_graph_select.specs.declared.adjacency.Source.{Source}
use Rattle.gm_graph_select.specs.declared.step.Edge.{Edge}
use Rattle.gm_graph_select.specs.declared.step.Step.{Step}
use Rattle.gm_graph_select.specs.declared.step.Step.TheVariants.{Of}
use Rattle.gm_graph_select.specs.Adjacency.{AreRanked, HaveNumbers, IsBelow, IsNumbered, LeavesLower, StepEdges, by_step, edges_from, edges_of, left_by, list_at, same_step, step_edges, step_with}
use Rattle.gm_graph_select.specs.Private.Adjacency.{IsByRanks, source_by_ranks}
use Rattle.gm_graph_select.specs.Graph.{edge, edge_cmp, step_cmp}
use Rattle.gm_graph_select.specs.Private.Marking.{HasMark}
use Rattle.gm_graph_select.specs.Order.{HaveSame, IsAscending}
use Rattle.gm_graph_select.specs.Private.Ranking.{IsRanked}
use Rattle.gm_graph_select.specs.StepOrder.{step_eq, step_equiv, step_total}
use Rattle.gm_graph_select.proofs.Ascending.{pairs_append, pairs_head, pairs_map, pairs_tail, same_append}
use Rattle.gm_graph_select.proofs.Marks.{from_flat, in_flat}
use Rattle.gm_graph_select.proofs.Sorts.{keys_ascend, ties_flip}

-- ---- mapped lists

pub in_mapped : {X Y : Type 0} (f : X → Y) (xs : List X) (x : X) → Contains xs x → Contains (map f xs) (f x)
in_mapped f xs x (k, below, is) = (k, rw length-map below, get_or-map f xs k x (f x) below ∙ ap f is)

pub from_mapped : {X Y : Type 0} (f : X → Y) (xs : List X) (y : Y) → Contains (map f xs) y → (x : X) × Contains xs x × (f x ≡ y)
from_mapped f [] y h = absurd (omega (arith, h.1))
from_mapped f (x ∷ xs) y (zero, below, is) = (x, (0, omega arith, refl), is)
from_mapped f (x ∷ xs) y (suc k, below, is) = let (z, (j, under, at), e) = from_mapped f xs y (k, omega arith, is) in (z, (suc j, omega arith, at), e)

-- the edge of a number
abbrev pub leading : List ModuleVersion → StepEdges → ℕ → Edge
leading vertices one number = edge (left_by vertices one) (module_at vertices number)

-- ---- the edges of steps

pub edges_each : (vertices : List ModuleVersion) (all : List StepEdges) (one : StepEdges) (number : ℕ) → Contains all one
    → Contains one.to number → Contains (edges_of vertices all) (leading vertices one number)
edges_each vertices all one number there held = in_flat (edges_from vertices) all one _ there (in_mapped (leading vertices one) one.to number held)

pub edges_only : (vertices : List ModuleVersion) (all : List StepEdges) (e : Edge) → Contains (edges_of vertices all) e
    → (one : StepEdges) × Contains all one × (number : ℕ) × Contains one.to number × (leading vertices one number ≡ e)
edges_only vertices all e h =
    let (one, there, at) = from_flat (edges_from vertices) all e h in
    let (number, held, is) = from_mapped (leading vertices one) one.to e at in
    (one, there, number, held, is)

-- StepEdges lists in another order have the same edges.
edges_permuted : (vertices : List ModuleVersion) (old new : List StepEdges) → IsPermutation old new → HaveSame (edges_of vertices old) (edges_of vertices new)
edges_permuted vertices old new same e = (along old new same, along new old (IsPermutation-sym old new same))
  where
    along : (a b : List StepEdges) → IsPermutation a b → Contains (edges_of vertices a) e → Contains (edges_of vertices b) e
    along a b is h =
        let (one, there, number, held, at) = edges_only vertices a e h in
        rw⁻¹ at (edges_each vertices b one number (Contains-permutation a b one is there) held)

-- ---- ascending edges

module _ (vertices : List ModuleVersion) (up : IsAscending pair_cmp vertices) where
  to_ascends : (s : Step) (to : List ℕ) → IsAscending nat_cmp to → All (λ n. n < length vertices) to
      → IsAscending edge_cmp (map (λ (n : ℕ). edge s (module_at vertices n)) to)
  to_ascends s to ranks within = pairs_map (λ a b. edge_cmp a b ≡ Less) (λ (n : ℕ). edge s (module_at vertices n)) to (λ i j d lt below.
      let a = get_or to i d in
      let b = get_or to j d in
      rw (tied_itself step_total s) (up a b ([], []) (number-less a b (ranks i j d lt below)) (within j d below)))

  lower_step : (a b : Option ℕ) → IsBelow (length vertices) b → option_cmp nat_cmp a b ≡ Less → step_cmp (step_with vertices a) (step_with vertices b) ≡ Less
  lower_step None None within e = absurd (cc e)
  lower_step None (Some b) within e = refl
  lower_step (Some a) None within e = absurd (cc e)
  lower_step (Some a) (Some b) within e = up a b ([], []) (number-less a b e) within

  edges_ascend : (all : List StepEdges) → HaveNumbers (length vertices) all → AllPairs LeavesLower all
      → All (λ (one : StepEdges). IsAscending nat_cmp one.to) all → IsAscending edge_cmp (edges_of vertices all)
  edges_ascend [] numbered lower each = λ i j d lt below. absurd (omega (arith, below))
  edges_ascend (one ∷ all) numbered lower each =
      pairs_append (λ (a b : Edge). edge_cmp a b ≡ Less) (edges_from vertices one) (edges_of vertices all)
      (to_ascends (left_by vertices one) one.to (All-head (λ (o : StepEdges). IsAscending nat_cmp o.to) one all each)
      (All-head (IsNumbered (length vertices)) one all numbered).to)
      (edges_ascend all (All-tail (IsNumbered (length vertices)) one all numbered)
      (pairs_tail LeavesLower one all lower) (All-tail (λ (o : StepEdges). IsAscending nat_cmp o.to) one all each))
      between
    where
      between : (a b : Edge) → Contains (edges_from vertices one) a → Contains (edges_of vertices all) b → edge_cmp a b ≡ Less
      between a b h k =
          let (n, there, is) = from_mapped (leading vertices one) one.to a h in
          let (other, later, m, found, same) = edges_only vertices all b k in
          let numbers = All-contains (IsNumbered (length vertices)) all other (All-tail (IsNumbered (length vertices)) one all numbered) later in
          rw (← is, ← same) (ap (λ (o : Ordering). ordering_then o (pair_cmp (module_at vertices n) (module_at vertices m)))
          (lower_step one.from other.from numbers.from (pairs_head LeavesLower one other all lower later)))

-- The edges of a graph by ranks are in ascending order.
pub ranked_edges_ascend : (vertices : List ModuleVersion) (all : List StepEdges) → AreRanked vertices all → IsAscending edge_cmp (edges_of vertices all)
ranked_edges_ascend vertices all are = edges_ascend vertices are.vertices_ascend all are.numbered are.lists_ascend are.each_ascends

-- ---- sorted lists

abbrev same_from : StepEdges → StepEdges → Bool
same_from a b = is_eq (option_cmp nat_cmp a.from b.from)

pub options : IsTotalOrder (option_cmp nat_cmp)
options = options_total nat_cmp_total

lists_ascend : (all : List StepEdges) → IsSortedByKey (λ (one : StepEdges). one.from) (option_cmp nat_cmp) all
    → IsDistinct same_from all → AllPairs LeavesLower all
lists_ascend all sorted distinct = keys_ascend options (λ (one : StepEdges). one.from) all (λ k d inside. sorted k d (omega arith) inside) distinct

same_options : (p q : Option ℕ) → is_eq (option_cmp nat_cmp p q) ≡ true → p ≡ q
same_options None None e = refl
same_options None (Some b) e = absurd (cc e)
same_options (Some a) None e = absurd (cc e)
same_options (Some a) (Some b) e = ap Some (nat_cmp-IsAntisymmetric a b ((Equal-is (nat_cmp a b)).0 e))

-- ---- the edges of each step, from sources and lists

-- The new edges have ranks in the places of the old ones' numbers, those of their ends in ascending order.
pub record HasRanks (ranks : List ℕ) (old new : StepEdges) : Type 0 where
  pub from : new.from ≡ option_map (slice_index ranks) old.from
  pub ascending : IsAscending nat_cmp new.to
  pub members : HaveSame (map (slice_index ranks) old.to) new.to

-- All edges have ranks in the places of numbers, and are in ascending order of the steps that they leave.
pub record AreByRanks (ranks : List ℕ) (old new : List StepEdges) : Type 0 where
  pub lists : List StepEdges
  pub each : AllZip (HasRanks ranks) old lists
  pub permutation : IsPermutation lists new
  pub sorted : IsSortedByKey (λ one. one.from) (option_cmp nat_cmp) new

module _ (ranks : List ℕ) where
  -- The same holds at each place, also past the end.
  list_ranked : (olds news : List (List ℕ)) → AllZip (IsByRanks ranks) olds news → (place : ℕ)
      → IsAscending nat_cmp (list_at news place) × HaveSame (map (slice_index ranks) (list_at olds place))
      (list_at news place)
  list_ranked [] [] zip place = ((λ i j d lt below. absurd (omega (arith, below))), (λ x. ((λ h. h), (λ h. h))))
  list_ranked [] (b ∷ news) zip place = absurd zip
  list_ranked (a ∷ olds) [] zip place = absurd zip
  list_ranked (a ∷ olds) (b ∷ news) (one, rest) zero = (one.ascending, one.members)
  list_ranked (a ∷ olds) (b ∷ news) (one, rest) (suc place) = list_ranked olds news rest place

  module _ (olds news : List (List ℕ)) (zip : AllZip (IsByRanks ranks) olds news) where
    zip_steps : (sources : List Source) → AllZip (HasRanks ranks) (by_step olds sources) (by_step news (map (source_by_ranks ranks) sources))
    zip_steps [] = tt
    zip_steps (one ∷ sources) =
        let (ascending, members) = list_ranked olds news zip one.list in
        (record { from = refl; ascending = ascending; members = members }, zip_steps sources)

    steps_sorted : (sources : List Source) → IsSortedByKey (λ (one : Source). one.from) (option_cmp nat_cmp) sources
        → IsSortedByKey (λ (one : StepEdges). one.from) (option_cmp nat_cmp) (by_step news sources)
    steps_sorted sources sorted k d low high =
        let none : Source = record { from = None; list = 0 } in
        let count : length (by_step news sources) ≡ length sources = length-map sources (step_edges news) in
        ap₂ (λ (a b : StepEdges). is_lt (option_cmp nat_cmp b.from a.from))
        (get_or-map (step_edges news) sources k none d (omega (arith, count, high)))
        (get_or-map (step_edges news) sources (k + 1) none d (omega (arith, count, high)))
        ∙ sorted k none low (omega (arith, count, high))

    pub steps_by_ranks : (old new : List Source) → IsPermutation (map (source_by_ranks ranks) old) new
        → IsSortedByKey (λ (one : Source). one.from) (option_cmp nat_cmp) new → AreByRanks ranks (by_step olds old) (by_step news new)
    steps_by_ranks old new permutation sorted = record {
      lists = by_step news (map (source_by_ranks ranks) old);
      each = zip_steps old;
      permutation = IsPermutation-map (step_edges news) (map (source_by_ranks ranks) old) new permutation;
      sorted = steps_sorted new sorted;
    }

-- ---- lists with ranks in the places of numbers

abbrev pub IsFromMarked : List Bool → Option ℕ → Type 0
IsFromMarked marks None = ⊤
IsFromMarked marks (Some number) = HasMark marks number

-- Each number that the list names is marked.
pub record NamesMarked (marks : List Bool) (one : StepEdges) : Type 0 where
  pub from : IsFromMarked marks one.from
  pub to : All (HasMark marks) one.to

-- The rank of each marked module is its place among the vertices.
abbrev pub AreRanks : List ModuleVersion → List Bool → List ModuleVersion → List ℕ → Type 0
AreRanks modules marks vertices ranks = (number : ℕ) → HasMark marks number
    → IsRanked vertices ranks (record { vertex = module_at modules number; number = number })

module _ (modules : List ModuleVersion) (marks : List Bool) (ordered : List ModuleVersion) (ranks : List ℕ) (are : AreRanks modules marks ordered ranks) where
  step_kept : (from : Option ℕ) → IsFromMarked marks from → step_with ordered (option_map (slice_index ranks) from) ≡ step_with modules from
  step_kept None within = refl
  step_kept (Some number) within = ap Of (are number within).is

  below_kept : (from : Option ℕ) → IsFromMarked marks from → IsBelow (length ordered) (option_map (slice_index ranks) from)
  below_kept None within = within
  below_kept (Some number) within = (are number within).within

  module _ (old new : StepEdges) (numbered : NamesMarked marks old) (has : HasRanks ranks old new) where
    left_kept : left_by ordered new ≡ left_by modules old
    left_kept = ap (λ (from : Option ℕ). step_with ordered from) has.from ∙ step_kept old.from numbered.from

    edge_kept : (number : ℕ) → Contains old.to number → leading ordered new (slice_index ranks number) ≡ leading modules old number
    edge_kept number held = ap₂ edge left_kept (are number (All-contains (HasMark marks) old.to number numbered.to held)).is

    same_edges_from : HaveSame (edges_from modules old) (edges_from ordered new)
    same_edges_from e = (there, back)
      where
        there : Contains (edges_from modules old) e → Contains (edges_from ordered new) e
        there h =
            let (number, held, is) = from_mapped (leading modules old) old.to e h in
            let found = (has.members (slice_index ranks number)).0 (in_mapped (slice_index ranks) old.to number held) in
            rw⁻¹ (edge_kept number held ∙ is)
            (in_mapped (leading ordered new) new.to (slice_index ranks number) found)

        back : Contains (edges_from ordered new) e → Contains (edges_from modules old) e
        back h =
            let (rank, held, is) = from_mapped (leading ordered new) new.to e h in
            let (number, found, at) = from_mapped (slice_index ranks) old.to rank ((has.members rank).1 held) in
            rw⁻¹ (sym (edge_kept number found) ∙ ap (λ (n : ℕ). leading ordered new n) at ∙ is)
            (in_mapped (leading modules old) old.to number found)

    numbered_kept : IsNumbered (length ordered) new
    numbered_kept = record {
      from = rw has.from (below_kept old.from numbered.from);
      to = λ k d below.
          let rank = get_or new.to k d in
          let (number, found, at) = from_mapped (slice_index ranks) old.to rank ((has.members rank).1 (Contains-get_or new.to k d below)) in
          rw⁻¹ at (are number (All-contains (HasMark marks) old.to number numbered.to found)).within;
    }

  all_same : (old new : List StepEdges) → All (NamesMarked marks) old → AllZip (HasRanks ranks) old new → HaveSame (edges_of modules old) (edges_of ordered new)
  all_same [] [] numbered zip = λ e. ((λ h. h), (λ h. h))
  all_same [] (b ∷ news) numbered zip = absurd zip
  all_same (a ∷ olds) [] numbered zip = absurd zip
  all_same (a ∷ olds) (b ∷ news) numbered (one, rest) =
      same_append (edges_from modules a) (edges_from ordered b) (edges_of modules olds) (edges_of ordered news)
      (same_edges_from a b (All-head (NamesMarked marks) a olds numbered) one)
      (all_same olds news (All-tail (NamesMarked marks) a olds numbered) rest)

  all_numbered : (old new : List StepEdges) → All (NamesMarked marks) old → AllZip (HasRanks ranks) old new → HaveNumbers (length ordered) new
  all_numbered [] [] numbered zip = All-nil (IsNumbered (length ordered))
  all_numbered [] (b ∷ news) numbered zip = absurd zip
  all_numbered (a ∷ olds) [] numbered zip = absurd zip
  all_numbered (a ∷ olds) (b ∷ news) numbered (one, rest) =
      All-cons (IsNumbered (length ordered)) b news
      (numbered_kept a b (All-head (NamesMarked marks) a olds numbered) one)
      (all_numbered olds news (All-tail (NamesMarked marks) a olds numbered) rest)

  each_ascends : (old new : List StepEdges) → AllZip (HasRanks ranks) old new → All (λ (one : StepEdges). IsAscending nat_cmp one.to) new
  each_ascends [] [] zip = All-nil (λ (one : StepEdges). IsAscending nat_cmp one.to)
  each_ascends [] (b ∷ news) zip = absurd zip
  each_ascends (a ∷ olds) [] zip = absurd zip
  each_ascends (a ∷ olds) (b ∷ news) (one, rest) = All-cons (λ (one : StepEdges). IsAscending nat_cmp one.to) b news one.ascending (each_ascends olds news rest)

  -- Lists that leave different steps have different ranks.
  same_left : (a b x y : StepEdges) → NamesMarked marks a → NamesMarked marks b → HasRanks ranks a x
      → HasRanks ranks b y → same_from x y ≡ true → same_step modules a b ≡ true
  same_left a b x y of_a of_b to_x to_y e =
      let same : left_by modules a ≡ left_by modules b =
      sym (left_kept a x of_a to_x) ∙ ap (λ (from : Option ℕ). step_with ordered from) (same_options x.from y.from e) ∙ left_kept b y of_b to_y in
      ap (λ (s : Step). step_eq (left_by modules a) s) (sym same) ∙ step_equiv.refl (left_by modules a)

  apart_kept : (old new : List StepEdges) → All (NamesMarked marks) old → AllZip (HasRanks ranks) old new
      → IsDistinct (same_step modules) old → IsDistinct same_from new
  apart_kept old new numbered zip distinct = IsDistinct-from_apart same_from new apart
    where
      apart : (i j : ℕ) (d : StepEdges) → i < j → j < length new → same_from (get_or new i d) (get_or new j d) ≡ false
      apart i j d lt below =
          let inside : j < length old = omega (arith, below, length_all_zip (HasRanks ranks) old new zip) in
          elim (cases_Bool (same_from (get_or new i d) (get_or new j d))) [
            | inl same ↦ absurd (false≢true (sym (apart_from_distinct (same_step modules) old i j d distinct lt inside)
                ∙ same_left (get_or old i d) (get_or old j d) (get_or new i d) (get_or new j d) (numbered i d (omega arith)) (numbered j d inside)
                (AllZip-get_or (HasRanks ranks) old new i d d zip (omega arith)) (AllZip-get_or (HasRanks ranks) old new j d d zip inside) same))
            | inr other ↦ other
          ]

  module _ (old new : List StepEdges) (numbered : All (NamesMarked marks) old) (by : AreByRanks ranks old new) where
    pub same_edges : HaveSame (edges_of modules old) (edges_of ordered new)
    same_edges e =
        let first = all_same old by.lists numbered by.each e in
        let second = edges_permuted ordered by.lists new by.permutation e in
        ((λ h. second.0 (first.0 h)), (λ h. first.1 (second.1 h)))

    pub lists_are_ranked : IsAscending pair_cmp ordered → IsDistinct (same_step modules) old → AreRanked ordered new
    lists_are_ranked up distinct = record {
      vertices_ascend = up;
      numbered = All-permutation (IsNumbered (length ordered)) by.lists new by.permutation (all_numbered old by.lists numbered by.each);
      lists_ascend = lists_ascend new by.sorted (IsDistinct-IsPermutation same_from (λ a b. ties_flip options a.from b.from) by.lists new
          by.permutation (apart_kept old by.lists numbered by.each distinct));
      each_ascends = All-permutation (λ (one : StepEdges). IsAscending nat_cmp one.to) by.lists new by.permutation (each_ascends old by.lists by.each);
    }
