-- Steps in ascending order, by their numbers.
use Rattle.std.proofs.Common.{add-one, ◌≡◌, ◌<◌, ◌+◌, ℕ, true, List, [], ◌∷◌, Option, Some, None, length, map, get_or, Contains, ap, ◌∙◌, refl, sym, inl, inr, arith}
use Rattle.std.specs.Prelude.{AllPairs}
use Rattle.std.specs.declared.cmp.Ordering.{Ordering}
use Rattle.std.specs.declared.cmp.Ordering.TheVariants.{Less, Equal, Greater}
use Rattle.std.specs.Cmp.{IsTotalOrder}
use Rattle.std.specs.FinMap.{nat_cmp-IsAntisymmetric}
use Rattle.std.specs.List.Sorted.{IsNonDecreasingBy, IsPartitionPoint, IsSortedBy}
use Rattle.std.specs.Option.{option_cmp, option_map_or}
use Rattle.std.specs.Ordering.{is_lt, nat_cmp, ordering_index, ordering_reverse}
use Rattle.std.proofs.lemmas.Bool.{cases_lt}
use Rattle.std.proofs.lemmas.Cmp.{nat_cmp_total, tied_itself}
use Rattle.std.proofs.lemmas.List.{get_or_default, get_or-map, length-map}
use Rattle.std.proofs.lemmas.List.Elements.{All-contains, Contains-get_or}
use Rattle.std.proofs.lemmas.List.Sorted.{searchable_from_sorted}
use Rattle.gm_name.specs.ModuleVersion.{ModuleVersion, module_at, pair_cmp, pair_total}
use Rattle.gm_name.proofs.NumericIdentifiers.{cmp-lt}
use Rattle.gm_name.proofs.Precedence.{number-less}
use Rattle.gm_graph_select.specs.declared.adjacency.Source.{Source}
use Rattle.gm_graph_select.specs.declared.step.Edge.{Edge}
use Rattle.gm_graph_select.specs.declared.step.Step.{Step}
use Rattle.gm_graph_select.specs.declared.step.Step.TheVariants.{Main, Of}
use Rattle.gm_graph_select.specs.Adjacency.{AreRanked, GraphView, IsBelow, IsNumbered, StepEdges, by_step, edges_of, list_at, step_edges, step_with}
use Rattle.gm_graph_select.specs.Graph.{among, edge, step_cmp}
use Rattle.gm_graph_select.specs.Private.Numbering.{AreInList, AreLeaving, HasList, IsGraph, number_left, step_at, steps_of}
use Rattle.gm_graph_select.specs.Order.{IsAscending}
use Rattle.gm_graph_select.specs.StepOrder.{step_total}
use Rattle.gm_graph_select.proofs.Ascending.{less_itself, no_member, pairs_cons, pairs_map}
use Rattle.gm_graph_select.proofs.RankedLists.{edges_each, edges_only, from_mapped, in_mapped, options}
use Rattle.gm_graph_select.proofs.Sorts.{lt_less}

-- ---- places of keys that rise

module _ {X K : Type 0} {cmp : K → K → Ordering} (total : IsTotalOrder cmp) (key : X → K) (xs : List X)
    (up : AllPairs (λ (a b : X). cmp (key a) (key b) ≡ Less) xs) where
  never_again : (i j : ℕ) (d : X) → i < j → j < length xs → key (get_or xs i d) ≡ key (get_or xs j d) → ⊥
  never_again i j d lt below same = less_itself total _ (rw same at (up i j d lt below))

  -- Only one place has a key.
  pub one_place : (i j : ℕ) (d : X) → i < length xs → j < length xs → key (get_or xs i d) ≡ key (get_or xs j d) → i ≡ j
  one_place i j d below inside same = elim (cases_lt i j) [
    | inl lt ↦ absurd (never_again i j d lt inside same)
    | inr ge ↦ elim (cases_lt j i) [ inl lt ↦ absurd (never_again j i d lt below (sym same)) | inr le ↦ omega (arith, ge, le) ]
  ]

  -- A lesser key has a lower place.
  pub lower_place : (i j : ℕ) (d : X) → i < length xs → j < length xs → cmp (key (get_or xs i d)) (key (get_or xs j d)) ≡ Less → i < j
  lower_place i j d below inside low = elim (cases_lt i j) [
    | inl lt ↦ lt
    | inr ge ↦ absurd (less_itself total (key (get_or xs i d)) (elim (cases_lt j i) [
      | inl lt ↦ total.trans _ _ _ low (up j i d lt below)
      | inr le ↦ let same : j ≡ i = omega (arith, ge, le) in rw same at low
    ]))
  ]

  sorted_by : IsSortedBy (λ (a b : X). is_lt (cmp (key a) (key b))) xs
  sorted_by k d low high = ap is_lt (total.antisymm (key (get_or xs (k + 1) d)) (key (get_or xs k d)) ∙ ap ordering_reverse (up k (k + 1) d (omega arith) high))

  -- A binary search that finds nothing says that there is nothing.
  pub nothing_found : (x : K) (i : ℕ) → (IsNonDecreasingBy (λ (y : X). ordering_index (cmp (key y) x)) xs
      → IsPartitionPoint (λ (y : X). cmp (key y) x ≡ Less) (λ (y : X). cmp (key y) x ≡ Greater) xs i)
      → (y : X) → Contains xs y → cmp (key y) x ≡ Equal → ⊥
  nothing_found x i says y (k, below, at) e =
      let point = says (searchable_from_sorted total key xs x sorted_by) in
      elim (cases_lt k i) [
        | inl lt ↦ (let less = point.0 k y (omega arith) lt in cc (sym (rw at at less) ∙ e))
        | inr ge ↦ (let greater = point.1 k y ge below in cc (sym (rw at at greater) ∙ e))
      ]

-- ---- the steps of a graph

pub step_of_rank : (vertices : List ModuleVersion) (rank : ℕ) → rank < length vertices
    → step_at (Main ∷ map Of vertices) (rank + 1) ≡ Of (module_at vertices rank)
step_of_rank vertices rank below = rw add-one (get_or-map Of vertices rank ([], []) Main below)

module _ {graph : GraphView} (are : IsGraph graph) where
  steps_ascend : IsAscending step_cmp (steps_of graph)
  steps_ascend = pairs_cons (λ s t. step_cmp s t ≡ Less) Main (map Of graph.vertices)
      (λ s there. let (y, _, is) = from_mapped Of graph.vertices s there in rw⁻¹ is refl)
      (pairs_map (λ s t. step_cmp s t ≡ Less) Of graph.vertices are.ascending)

  pub same_number : (i j : ℕ) → i < length (steps_of graph) → j < length (steps_of graph) → step_at (steps_of graph) i ≡ step_at (steps_of graph) j → i ≡ j
  same_number i j below inside same = one_place step_total (λ s. s) (steps_of graph) steps_ascend i j Main below inside same

  pub less_number : (i j : ℕ) → i < length (steps_of graph) → j < length (steps_of graph)
      → is_lt (step_cmp (step_at (steps_of graph) i) (step_at (steps_of graph) j)) ≡ true → i < j
  less_number i j below inside low = lower_place step_total (λ s. s) (steps_of graph) steps_ascend i j Main below inside (lt_less _ low)

  -- A step that an edge leaves has a number.
  pub step_number : (s : Step) (y : ModuleVersion) → Contains graph.edges (edge s y)
      → (i : ℕ) × (i < length (steps_of graph)) × (step_at (steps_of graph) i ≡ s)
  step_number s y h = let (i, below, at) = are.left (edge s y) h in (i, below, get_or_default (steps_of graph) i Main s below ∙ at)

-- ---- a graph by ranks

-- the number of a step by its rank
abbrev number_with : Option ℕ → ℕ
number_with from = option_map_or (λ (rank : ℕ). rank + 1) from 0

lower_with : (p q : Option ℕ) → option_cmp nat_cmp p q ≡ Less → number_with p < number_with q
lower_with None None e = absurd (cc e)
lower_with None (Some b) e = omega arith
lower_with (Some a) None e = absurd (cc e)
lower_with (Some a) (Some b) e = let low = number-less a b e in omega (arith, low)

same_with : (p q : Option ℕ) → number_with p ≡ number_with q → p ≡ q
same_with None None e = refl
same_with None (Some b) e = absurd (omega (arith, e))
same_with (Some a) None e = absurd (omega (arith, e))
same_with (Some a) (Some b) e = let same : a ≡ b = omega (arith, e) in ap Some same

module _ {vertices : List ModuleVersion} {all : List StepEdges} (sources : List Source) (are : AreRanked vertices all) where
  abbrev graph : GraphView
  graph = record { vertices = vertices; edges = edges_of vertices all; sources = sources }

  abbrev steps : List Step
  steps = steps_of graph

  -- the step that a list leaves has the list's number
  its_number : (from : Option ℕ) → IsBelow (length vertices) from
      → (number_with from < length steps) × (step_at steps (number_with from) ≡ step_with vertices from)
  its_number None within = (omega arith, refl)
  its_number (Some rank) within = (omega (arith, within, length-map vertices Of), step_of_rank vertices rank within)

  numbered_list : (one : StepEdges) → Contains all one → IsNumbered (length vertices) one
  numbered_list one there = All-contains (IsNumbered (length vertices)) all one are.numbered there

  pub is_graph : IsGraph graph
  is_graph = record {
    ascending = are.vertices_ascend;
    left = λ e h.
        let (one, there, rank, held, is) = edges_only vertices all e h in
        let (inside, same) = its_number one.from (numbered_list one there).from in
        rw⁻¹ (same ∙ ap (λ (f : Edge). f.from) is) (Contains-get_or steps (number_with one.from) Main inside);
    ends = λ e h.
        let (one, there, rank, held, is) = edges_only vertices all e h in
        rw⁻¹ (ap (λ (f : Edge). f.to) is) (Contains-get_or vertices rank ([], [])
        (All-contains (λ (n : ℕ). n < length vertices) one.to rank (numbered_list one there).to held));
  }

  -- Two lists that leave one step are the same.
  one_list : (a b : StepEdges) → Contains all a → Contains all b → number_with a.from ≡ number_with b.from → a ≡ b
  one_list a b (i, inside, at) (j, below, is) same =
      let there = get_or_default all j a b below ∙ is in
      let place = one_place options (λ (o : StepEdges). o.from) all are.lists_ascend i j a inside below
      (ap (λ (o : StepEdges). o.from) at ∙ same_with a.from b.from same ∙ ap (λ (o : StepEdges). o.from) (sym there)) in
      sym at ∙ ap (λ (n : ℕ). get_or all n a) place ∙ there

  -- An edge from the step with a number is in the list with that number.
  list_with : (number : ℕ) → number < length steps → (y : ModuleVersion) → among graph.edges (step_at steps number) y
      → (one : StepEdges) × Contains all one × (number_with one.from ≡ number)
      × (rank : ℕ) × Contains one.to rank × (module_at vertices rank ≡ y)
  list_with number below y h =
      let (one, there, rank, held, is) = edges_only vertices all (edge (step_at steps number) y) h in
      let (inside, same) = its_number one.from (numbered_list one there).from in
      let alike = same_number is_graph (number_with one.from) number inside below (same ∙ ap (λ (f : Edge). f.from) is) in
      (one, there, alike, rank, held, ap (λ (f : Edge). f.to) is)

  -- The list with that number has the edges.
  pub list_leaves : (one : StepEdges) (number : ℕ) → Contains all one → number_with one.from ≡ number → number < length steps
      → AreLeaving graph number one.to
  list_leaves one number there is below = record {
    within = (numbered_list one there).to;
    each = λ y. (
      (λ h.
          let (rank, held, to) = from_mapped (module_at vertices) one.to y h in
          let left = ap (step_at steps) (sym is) ∙ (its_number one.from (numbered_list one there).from).1 in
          rw (left, ← to) (edges_each vertices all one rank there held)),
      (λ h.
          let (other, found, number_is, rank, held, to) = list_with number below y h in
          let same = one_list other one found there (number_is ∙ sym is) in
          rw⁻¹ to (in_mapped (module_at vertices) one.to rank (rw same at held))),
    );
  }

  -- Without such a list no edge leaves the step.
  pub none_leave : (number : ℕ) → ((one : StepEdges) → Contains all one → number_with one.from ≡ number → ⊥) → number < length steps
      → AreLeaving graph number []
  none_leave number none below = record {
    within = λ k d inside. absurd (omega (arith, inside));
    each = λ y. ((λ h. absurd (no_member y h)), (λ h. absurd (let (one, there, is, _, _, _) = list_with number below y h in none one there is)));
  }

-- ---- sources by ranks

module _ {vertices : List ModuleVersion} (lists : List (List ℕ)) (sources : List Source) (are : AreRanked vertices (by_step lists sources)) where
  abbrev pub its_graph : GraphView
  its_graph = graph sources are

  sources_rise : AllPairs (λ (a b : Source). nat_cmp (number_left a) (number_left b) ≡ Less) sources
  sources_rise i j d lt below =
      let lead = step_edges lists in
      let a = get_or sources i d in
      let b = get_or sources j d in
      cmp-lt (number_left a) (number_left b) (lower_with a.from b.from
      (rw (get_or-map lead sources i d (lead d) (omega arith), get_or-map lead sources j d (lead d) below)
      at (are.lists_ascend i j (lead d) lt (rw length-map below))))

  -- A binary search found the source with that number.
  pub source_found : (number place : ℕ) (one : Source) → place < length sources → one ≡ get_or sources place one
      → nat_cmp (number_left one) number ≡ Equal → HasList its_graph number one.list
  source_found number place one inside is e = (one, (place, inside, sym is), nat_cmp-IsAntisymmetric (number_left one) number e, refl)

  -- The list at a place has the ranks of the vertices that edges lead to from each of its steps.
  pub ranks_found : (list : ℕ) → AreInList its_graph list (list_at lists list)
  ranks_found list number below (one, there, number_is, list_is) =
      rw⁻¹ list_is (list_leaves sources are (step_edges lists one) number (in_mapped (step_edges lists) sources one there) number_is below)

  -- It found none.
  pub source_not_found : (number i : ℕ) → (IsNonDecreasingBy
      (λ (y : Source). ordering_index (nat_cmp (number_left y) number)) sources
      → IsPartitionPoint (λ (y : Source). nat_cmp (number_left y) number ≡ Less)
      (λ (y : Source). nat_cmp (number_left y) number ≡ Greater) sources i)
      → number < length (steps_of its_graph) → AreLeaving its_graph number []
  source_not_found number i says below = none_leave sources are number
      (λ edges there is.
      let (one, found, same) = from_mapped (step_edges lists) sources edges there in
      let number_is : number_left one ≡ number = ap (λ (o : StepEdges). number_with o.from) same ∙ is in
      nothing_found nat_cmp_total number_left sources sources_rise number i says one found (rw number_is (tied_itself nat_cmp_total number)))
      below

-- A binary search found no such vertex.
pub vertex_not_found : (vertices : List ModuleVersion) (x : ModuleVersion) (i : ℕ) → IsAscending pair_cmp vertices
    → (IsNonDecreasingBy (λ (y : ModuleVersion). ordering_index (pair_cmp y x)) vertices
    → IsPartitionPoint (λ (y : ModuleVersion). pair_cmp y x ≡ Less) (λ (y : ModuleVersion). pair_cmp y x ≡ Greater)
    vertices i) → Contains vertices x → ⊥
vertex_not_found vertices x i up says there = nothing_found pair_total (λ (y : ModuleVersion). y) vertices up x i says x there (tied_itself pair_total x)
