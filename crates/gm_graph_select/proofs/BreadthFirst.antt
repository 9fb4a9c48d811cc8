-- A breadth-first search: one more edge, one more visit, one more level.
use Rattle.std.proofs.Common.{◌≡◌, ◌≢◌, ◌+◌, ◌-◌, ◌<◌, ◌≤◌, ◌⊎◌, ℕ, zero, suc, Bool, true, false, List, [], ◌∷◌, ◌++◌, length, get_or, set, take, replicate, reverse, Contains, ap, ◌∙◌, sym, refl, subst, inl, inr, arith, append-nil, length-append, append_assoc}
use Rattle.std.specs.Prelude.{◌==◌, All}
use Rattle.std.specs.List.Sorted.{IsNonDecreasingBy}
use Rattle.std.specs.Ordering.{is_lt}
use Rattle.std.proofs.Math.Seq.{get_or-append_seam}
use Rattle.std.proofs.lemmas.Bool.{cases_eq, cases_lt, eqb-true, false_from_ne_true, false≢true, true_from_ne_false}
use Rattle.std.proofs.lemmas.List.{get_or_append_left, get_or_default, get_or-set_other, get_or-take, length-map, length-replicate, length-take-le, map-append, reverse-append, take_more}
use Rattle.std.proofs.lemmas.List.Elements.{All-contains, All-push, All-weaker, Contains-append_cases, Contains-push_cases}
use Rattle.std.proofs.lemmas.List.Sorted.{IsNonDecreasingBy-short}
use Rattle.gm_name.specs.ModuleVersion.{ModuleVersion, module_at, pair_total}
use Rattle.gm_graph_select.specs.declared.step.Step.{Step}
use Rattle.gm_graph_select.specs.declared.step.Step.TheVariants.{Main, Of}
use Rattle.gm_graph_select.specs.declared.searching.Search.{Search}
use Rattle.gm_graph_select.specs.declared.searching.Visit.{Visit}
use Rattle.gm_graph_select.specs.Adjacency.{GraphView}
use Rattle.gm_graph_select.specs.Graph.{Edges, edge, step_cmp, among}
use Rattle.gm_graph_select.specs.Chains.{IsChain, IsLevel, IsPredecessor, IsReached, Leads, along, at_main, begins, goes_on}
use Rattle.gm_graph_select.specs.Private.Marking.{AreMarked, HasMark}
use Rattle.gm_graph_select.specs.Private.Numbering.{AreInList, AreLeaving, IsGraph, step_at, steps_of}
use Rattle.gm_graph_select.specs.Order.{HaveSame}
use Rattle.gm_graph_select.specs.Private.Searching.{AreEndsFound, AreNewVisits, ArePassed, AreTraced, IsEdgeTo, IsFollowed, IsSearchedTo, IsTraced, IsTracedTo, IsVisitDue, IsWithin, count_left, numbers_visited, visit_at, visited_step}
use Rattle.gm_graph_select.proofs.Ascending.{member_head, no_member, one_member}
use Rattle.gm_graph_select.proofs.Marks.{both_marked, count_set, none_marked, none_more, one_marked}
use Rattle.gm_graph_select.proofs.NumberedSteps.{less_number, one_place, same_number, step_number, step_of_rank}
use Rattle.gm_graph_select.proofs.RankedLists.{from_mapped}

-- ---- levels

module _ (E : Edges) (n : ℕ) (y : ModuleVersion) (far : IsWithin E n (Of y) → ⊥) where
  at_least : (s : Step) → E s y → (m : ℕ) → Leads E s m → n ≤ m
  at_least s e m h = elim (cases_lt m n) [
    | inl lt ↦ absurd (far (suc m, omega (arith, lt), along h e))
    | inr ge ↦ ge
  ]

  -- A vertex that no edge leads to from a step of the level is no level further either.
  pub not_further : ((s : Step) → IsLevel E s n → E s y → ⊥) → IsWithin E (suc n) (Of y) → ⊥
  not_further none (k, low, leads) = go k leads low
    where
      go : (k : ℕ) → Leads E (Of y) k → k ≤ suc n → ⊥
      go _ (along {s} {n = j} l e) low =
          let high = at_least s e j l in
          let same : j ≡ n = omega (arith, low, high) in
          none s (record { leads = rw⁻¹ same l; least = at_least s e }) e

  -- A vertex that an edge leads to from a step of the level is one level further.
  pub is_further : (s : Step) → IsLevel E s n → E s y → IsLevel E (Of y) (suc n)
  is_further s level e = record {
    leads = along level.leads e;
    least = λ m h. elim (cases_lt n m) [ inl lt ↦ omega (arith, lt) | inr ge ↦ absurd (far (m, ge, h)) ];
  }

within_none : (E : Edges) (s : Step) → IsWithin E 0 s → s ≡ Main
within_none E _ (zero, low, at_main) = refl
within_none E s (suc k, low, h) = absurd (omega (arith, low))

-- If no edge leaves a step of a level, edges lead to no step beyond it.
all_within : (E : Edges) (level : ℕ) → ((s : Step) (y : ModuleVersion) → IsLevel E s level → E s y → ⊥)
    → (s : Step) (k : ℕ) → Leads E s k → (IsWithin E level s → ⊥) → ⊥
all_within E level none _ _ at_main far = far (0, omega arith, at_main)
all_within E level none _ _ (along {s} {y} {n} l e) far = all_within E level none s n l (λ (m, low, near).
    not_further E level y far (λ t here a. none t y here a) (suc m, omega (arith, low), along near e))

-- ---- visits

visit_kept : (visits : List Visit) (v : Visit) (k : ℕ) → k < length visits → visit_at (visits ++ v ∷ []) k ≡ visit_at visits k
visit_kept visits v k below = get_or_append_left visits (v ∷ []) (record { number = 0; before = 0 }) k below

visit_last : (visits : List Visit) (v : Visit) → visit_at (visits ++ v ∷ []) (length visits) ≡ v
visit_last visits v = get_or-append_seam visits v [] (record { number = 0; before = 0 })

module _ (E : Edges) (steps : List Step) (visits : List Visit) (v : Visit) where
  traced_later : (place later : ℕ) (w : Visit) → place ≤ length visits → place ≤ later → IsTraced E steps visits place w
      → IsTraced E steps (visits ++ v ∷ []) later w
  traced_later place later w inside le (low, inl main) = (low, inl main)
  traced_later place later w inside le (low, inr (y, is, below, before)) =
      let kept = sym (visit_kept visits v w.before (omega (arith, below, inside))) in
      (low, inr (y, is, omega (arith, below, le), rw⁻¹ kept before))

  pub traced_more : (w : Visit) → IsTraced E steps visits (length visits) w → IsTraced E steps (visits ++ v ∷ []) (length (visits ++ v ∷ [])) w
  traced_more w h = traced_later (length visits) (length (visits ++ v ∷ [])) w (omega arith) (omega (arith, length-append visits (v ∷ []))) h

  all_traced : IsTraced E steps visits (length visits) v → AreTraced E steps visits → AreTraced E steps (visits ++ v ∷ [])
  all_traced last each k below = elim (cases_lt k (length visits)) [
    | inl lt ↦ rw (visit_kept visits v k lt)
        (traced_later k k (visit_at visits k) (omega (arith, lt)) (omega arith) (each k lt))
    | inr ge ↦
        (let is : length visits ≡ k = omega (arith, ge, below, length-append visits (v ∷ [])) in
        rw⁻¹ is
        (rw (visit_last visits v)
        (traced_later (length visits) (length visits) v (omega arith) (omega arith) last)))
  ]

-- ---- new visits to the next level

visits_marked : {old mid new : List Bool} (first second : List Visit) → AreMarked old (numbers_visited first) mid
    → AreMarked mid (numbers_visited second) new → AreMarked old (numbers_visited (first ++ second)) new
visits_marked first second a b =
    rw (map-append (λ (v : Visit). v.number) first second)
    (both_marked a b)

module _ (place : ℕ) (IsSuch : ℕ → Type 0) (old : Search) where
  pub none_new : (new : Search) → new.is_found.items ≡ old.is_found.items → new.next.items ≡ old.next.items
      → AreNewVisits place IsSuch old new
  none_new new same next = record {
    more = [];
    next = next ∙ sym (append-nil old.next.items);
    found = rw same (none_more old.is_found.items);
    count = (let kept = ap count_left same in omega (arith, kept));
    each = λ v h. absurd (no_member v h);
  }

  pub one_new : (new : Search) (number : ℕ) → new.is_found.items ≡ set old.is_found.items number true
      → new.next.items ≡ old.next.items ++ record { number = number; before = place } ∷ []
      → number < length old.is_found.items → get_or old.is_found.items number false ≡ false → IsSuch number
      → AreNewVisits place IsSuch old new
  one_new new number made next below none such = record {
    more = v ∷ [];
    next = next;
    found = rw made (one_marked old.is_found.items number below);
    count = (let fewer = count_set old.is_found.items number below none in let left = ap count_left made in omega (arith, fewer, left));
    each = λ w h. rw⁻¹ (one_member v w h)
        (refl, such, λ mark. false≢true (sym none ∙ mark));
  }
    where
      v : Visit
      v = record { number = number; before = place }

  pub both_new : (mid new : Search) (Is : ℕ → Type 0) → ((n : ℕ) → Is n → IsSuch n) → AreNewVisits place IsSuch old mid
      → AreNewVisits place Is mid new → AreNewVisits place IsSuch old new
  both_new mid new Is wider a b = record {
    more = a.more ++ b.more;
    next = b.next ∙ ap (λ (vs : List Visit). vs ++ b.more) a.next ∙ append_assoc old.next.items a.more b.more;
    found = visits_marked a.more b.more a.found b.found;
    count = (let first = a.count in let second = b.count in omega (arith, first, second, length-append a.more b.more));
    each = λ v h. elim (Contains-append_cases a.more b.more v h) [
      | inl first ↦ a.each v first
      | inr last ↦ (let (at, is, none) = b.each v last in (at, wider v.number is, λ mark. none ((a.found.each v.number).1 (inl mark))))
    ];
  }

-- ---- the edges of a visited step

-- They stay found.
pub ends_later : (G : GraphView) (goal : ModuleVersion) {old new : List Bool} {numbers : List ℕ} (number : ℕ)
    → AreMarked old numbers new → AreEndsFound G goal old number → AreEndsFound G goal new number
ends_later G goal number marked ends y e =
    let (miss, mark) = ends y e in (miss, λ i low at. (marked.each i).1 (inl (mark i low at)))

module _ {G : GraphView} (are : IsGraph G) (goal : ℕ) (inside : goal < length G.vertices) (found : List Bool) (ranks : List ℕ)
    (each : All (λ (rank : ℕ). (rank ≢ goal) × HasMark found (rank + 1)) ranks) where
  -- The edges to the vertices with these ranks were followed.
  pub ends_found : (number : ℕ) → AreLeaving G number ranks → AreEndsFound G (module_at G.vertices goal) found number
  ends_found number leaving y e =
      let (rank, there, is) = from_mapped (module_at G.vertices) ranks y ((leaving.each y).1 e) in
      let below = All-contains (λ (r : ℕ). r < length G.vertices) ranks rank leaving.within there in
      let (miss, mark) = All-contains (λ (r : ℕ). (r ≢ goal) × HasMark found (r + 1)) ranks rank each there in (
        (λ same. miss (one_place pair_total (λ y. y) G.vertices are.ascending rank goal ([], []) below inside (is ∙ same))),
        (λ i low at. rw⁻¹ (same_number are (rank + 1) i (omega (arith, below, length-map G.vertices Of)) low
            (step_of_rank G.vertices rank below ∙ ap Of is ∙ sym at)) mark),
      )

  -- So the list with these ranks was passed.
  pub list_passed : (passed : List Bool) (list : ℕ) → AreInList G list ranks → ArePassed G (module_at G.vertices goal) found passed
      → ArePassed G (module_at G.vertices goal) found (set passed list true)
  list_passed passed list leaving old number other low has mark = elim (cases_eq other list) [
    | inl same ↦ ends_found number (leaving number low (rw⁻¹ same has))
    | inr unlike ↦ old number other low has (sym (get_or-set_other passed list other true false unlike) ∙ mark)
  ]

-- One more edge was followed.
pub rank_followed : (goal : ℕ) (old new : List Bool) (ranks : List ℕ) (i : ℕ) → AreMarked old ((get_or ranks i 0 + 1) ∷ []) new
    → i < length ranks → get_or ranks i 0 ≢ goal
    → All (λ (rank : ℕ). (rank ≢ goal) × HasMark old (rank + 1)) (take i ranks)
    → All (λ (rank : ℕ). (rank ≢ goal) × HasMark new (rank + 1)) (take (i + 1) ranks)
rank_followed goal old new ranks i marked below miss each =
    rw (take_more ranks i 0 below)
    (All-push (λ (rank : ℕ). (rank ≢ goal) × HasMark new (rank + 1)) (take i ranks) (get_or ranks i 0)
    (All-weaker (λ (rank : ℕ). (rank ≢ goal) × HasMark old (rank + 1)) (λ (rank : ℕ). (rank ≢ goal) × HasMark new (rank + 1))
    (λ rank (apart, h). (apart, (marked.each (rank + 1)).1 (inl h))) (take i ranks) each)
    (miss, (marked.each (get_or ranks i 0 + 1)).1 (inr (member_head (get_or ranks i 0 + 1) []))))

-- ---- one more visit of a level

module _ {G : GraphView} {goal : ModuleVersion} {level : ℕ} {start : Search} {due : List Visit} (are : IsGraph G)
    (h : IsSearchedTo G goal level start due) where
  abbrev E : Edges
  E = among G.edges

  abbrev steps : List Step
  steps = steps_of G

  -- A step of the level with an edge is that of a visit that is due.
  visit_to : (s : Step) (y : ModuleVersion) → E s y → IsLevel E s level → (v : Visit) × Contains due v × (step_at steps v.number ≡ s)
  visit_to s y e l =
      let (i, inside, at) = step_number are s y e in
      let (v, there, number) = h.listed i inside (rw at l) in
      (v, there, ap (step_at steps) number ∙ at)

  -- No visit was made yet.
  pub level_begins : IsFollowed G goal level start.is_found.items [] start
  level_begins = record {
    found = rw h.none (none_more start.is_found.items);
    count = (let long = ap length h.none in omega (arith, long));
    each = λ v g. absurd (no_member v (rw h.none at g));
    ends = λ v g. absurd (no_member v g);
    visits = h.visits;
    passed = h.passed;
  }

  module _ (i : ℕ) (v : Visit) (below : i < length due) (is : v ≡ get_or due i v) (s t : Search)
      (f : IsFollowed G goal level start.is_found.items (take i due) s)
      (longer : t.visits.items ≡ s.visits.items ++ v ∷ []) (traced : IsTraced E steps s.visits.items (length s.visits.items) v) where
    on_level : IsLevel E (step_at steps v.number) level
    on_level = (h.each v (i, below, sym is)).0

    now_traced : AreTraced E steps t.visits.items
    now_traced = rw longer (all_traced E steps s.visits.items v traced f.visits)

    -- Its step is the predecessor of a vertex that no visit before it leads to.
    predecessor : (y : ModuleVersion) → E (step_at steps v.number) y → (IsWithin E level (Of y) → ⊥)
        → ((w : Visit) → Contains (take i due) w → E (step_at steps w.number) y → ⊥)
        → (place : ℕ) → place ≡ length s.visits.items → IsPredecessor E (visited_step steps t.visits.items place) y
    predecessor y e far none place at =
        rw longer
        (rw at
        (rw (visit_last s.visits.items v) (record {
          is_edge = e;
          level = level;
          nearer = on_level;
          further = is_further E level y far (step_at steps v.number) on_level e;
          least = λ a there l. false_from_ne_true (is_lt (step_cmp a (step_at steps v.number))) (λ low. lower a there l low);
        })))
      where
        lower : (a : Step) → E a y → IsLevel E a level → is_lt (step_cmp a (step_at steps v.number)) ≡ true → ⊥
        lower a there l low =
            let (w, (p, room, found), same) = visit_to a y there l in
            let less : w.number < v.number = less_number are w.number v.number
            (h.each w (p, room, found)).1.0 traced.0
            (rw same low) in
            elim (cases_lt p i) [
              | inl lt ↦ none w (p, omega (arith, length-take-le i due (omega (arith, below)), lt), get_or-take i due p w lt ∙ found)
                  (rw same there)
              | inr ge ↦
                  (let up : (get_or due i w).number ≤ (get_or due p w).number = h.ascending i p w ge room in
                  let here : (get_or due i w).number ≡ v.number = ap (λ (u : Visit). u.number) (get_or_default due i w v below ∙ sym is) in
                  let behind : (get_or due p w).number ≡ w.number = ap (λ (u : Visit). u.number) found in
                  absurd (omega (arith, up, here, behind, less)))
            ]

    -- It leads to the goal.
    pub goal_found : E (step_at steps v.number) goal → IsTracedTo G goal t.visits.items
    goal_found e =
        let long = ap length longer in
        record {
          each = now_traced;
          some = omega (arith, long, length-append s.visits.items (v ∷ []));
          last = predecessor goal e h.far (λ w made a. (f.ends w made goal a).0 refl) (length t.visits.items - 1)
              (omega (arith, long, length-append s.visits.items (v ∷ [])));
        }

    module _ (new : AreNewVisits (length s.visits.items) (IsEdgeTo G v.number) s t) where
      its_visit : (u : Visit) → Contains new.more u → IsVisitDue G (suc level) t.visits.items u
      its_visit u there =
          let (place, (low, y, at, e), none) = new.each u there in
          let far : IsWithin E level (Of y) → ⊥ = λ w.
          none ((f.found.each u.number).1 (inl ((h.found u.number low).1 (rw at w)))) in
          let long = ap length longer in
          let before : u.before < length t.visits.items = omega (arith, place, long, length-append s.visits.items (v ∷ [])) in
          let from = predecessor y e far (λ w made a. none ((f.ends w made y a).1 u.number low at)) u.before place in
          let further = is_further E level y far (step_at steps v.number) on_level e in
          (rw at further, (low, inr (y, at, before, from)))

      -- It doesn't.
      pub visit_made : (ArePassed G goal s.is_found.items s.is_passed.items → ArePassed G goal t.is_found.items t.is_passed.items
          × AreEndsFound G goal t.is_found.items v.number)
          → IsFollowed G goal level start.is_found.items (take (i + 1) due) t
      visit_made ends = record {
        found = rw new.next
            (visits_marked s.next.items new.more f.found new.found);
        count = (let old = f.count in let fewer = new.count in omega (arith, old, fewer, ap length new.next, length-append s.next.items new.more));
        each = λ u there. elim (Contains-append_cases s.next.items new.more u (rw⁻¹ new.next there)) [
          | inl before ↦ (
            (f.each u before).0,
            rw longer (traced_more E steps s.visits.items v u (f.each u before).1),
          )
          | inr later ↦ its_visit u later
        ];
        ends = λ u there. elim (Contains-push_cases (take i due) v u (rw⁻¹ taken there)) [
          | inl before ↦ ends_later G goal u.number new.found (f.ends u before)
          | inr last ↦ rw⁻¹ last (ends f.passed).1
        ];
        visits = now_traced;
        passed = (ends f.passed).0;
      }
        where
          taken : take (i + 1) due ≡ take i due ++ v ∷ []
          taken = take_more due i v below ∙ ap (λ (u : Visit). take i due ++ u ∷ []) (sym is)

  -- If a level has no steps, nothing more is found.
  pub not_reached : due ≡ [] → IsReached E (Of goal) → ⊥
  not_reached empty (n, leads) = all_within E level (λ s y l e.
      let (v, there, same) = visit_to s y e l in
      no_member v (subst (λ (vs : List Visit). Contains vs v) empty there)) (Of goal) n leads h.far

  -- ---- one more level

  module _ {s : Search} (f : IsFollowed G goal level start.is_found.items due s) where
    found_end : (a : Step) (y : ModuleVersion) → IsLevel E a level → E a y
        → (y ≢ goal) × ((i : ℕ) → i < length steps → step_at steps i ≡ Of y → HasMark s.is_found.items i)
    found_end a y l e = let (v, there, same) = visit_to a y e l in f.ends v there y (rw same e)

    found_next : (i : ℕ) → i < length steps → IsWithin E (suc level) (step_at steps i) → HasMark s.is_found.items i
    found_next i inside w = true_from_ne_false (get_or s.is_found.items i false) (λ none. go none (step_at steps i) refl)
      where
        old : (a : Step) → step_at steps i ≡ a → IsWithin E level a → HasMark s.is_found.items i
        old a is g = (f.found.each i).1 (inl ((h.found i inside).1 (rw is g)))

        go : get_or s.is_found.items i false ≡ false → (a : Step) → step_at steps i ≡ a → ⊥
        go none Main is = false≢true (sym none ∙ old Main is (0, omega arith, at_main))
        go none (Of y) is = not_further E level y (λ g. false≢true (sym none ∙ old (Of y) is g))
            (λ a l e. false≢true (sym none ∙ (found_end a y l e).1 i inside is))
            (rw⁻¹ is w)

    -- A step that was found was found before, or is that of a visit to the next level.
    found_by : (i : ℕ) → HasMark s.is_found.items i → HasMark start.is_found.items i ⊎ ((v : Visit) × Contains s.next.items v × (v.number ≡ i))
    found_by i g = elim ((f.found.each i).0 g) [ inl old ↦ inl old | inr new ↦ inr (from_mapped (λ (v : Visit). v.number) s.next.items i new) ]

    pub level_more : {t : Search} {next : List Visit} → t ≡ record s { next = t.next } → t.next.items ≡ [] → HaveSame s.next.items next
        → IsNonDecreasingBy (λ (v : Visit). v.number) next → IsSearchedTo G goal (suc level) t next
    level_more {t} {next} others none same up = rw others (record {
      size = f.found.count ∙ h.size;
      found = λ i inside. ((λ g. within i inside g), (λ w. found_next i inside w));
      listed = dues;
      each = λ v there. f.each v ((same v).1 there);
      ascending = up;
      visits = f.visits;
      far = not_further E level goal h.far (λ a l e. (found_end a goal l e).0 refl);
      none = none;
      passed = f.passed;
    })
      where
        within : (i : ℕ) → i < length steps → HasMark s.is_found.items i → IsWithin E (suc level) (step_at steps i)
        within i inside g = elim (found_by i g) [
          | inl old ↦ let (k, low, l) = (h.found i inside).0 old in (k, omega (arith, low), l)
          | inr (v, there, number) ↦ (
            suc level,
            omega arith,
            rw⁻¹ number (f.each v there).0.leads,
          )
        ]

        dues : (i : ℕ) → i < length steps → IsLevel E (step_at steps i) (suc level) → (v : Visit) × Contains next v × (v.number ≡ i)
        dues i inside l = elim (found_by i (found_next i inside (suc level, omega arith, l.leads))) [
          | inl old ↦ absurd (let (k, low, g) = (h.found i inside).0 old in let high = l.least k g in omega (arith, low, high))
          | inr (v, there, number) ↦ (v, (same v).0 there, number)
        ]

-- ---- the first level

pub first_level : (G : GraphView) (goal : ModuleVersion) (begun : Search) (due : List Visit) → IsGraph G → due ≡ record { number = 0; before = 0 } ∷ []
    → begun.is_found.items ≡ set (replicate (length (steps_of G)) false) 0 true → begun.visits.items ≡ [] → begun.next.items ≡ []
    → ((list : ℕ) → HasMark begun.is_passed.items list → ⊥) → IsSearchedTo G goal 0 begun due
first_level G goal begun due are is found visits next passed = rw is (record {
  size = marked.count ∙ length-replicate (length steps) false;
  found = λ i inside. (
    (λ g. elim ((marked.each i).0 g) [
      | inl old ↦ absurd (none_marked (length steps) i old)
      | inr first ↦ rw⁻¹ (one_member 0 i first) (0, omega arith, at_main)
    ]),
    (λ w. (marked.each i).1 (inr (0, omega arith, sym (only i inside w)))),
  );
  listed = λ i inside l. (v, (0, omega arith, refl), sym (only i inside (0, omega arith, l.leads)));
  each = λ w there. rw⁻¹ (one_member v w there)
      (record { leads = at_main; least = λ m h. omega arith }, (omega arith, inl refl));
  ascending = IsNonDecreasingBy-short (λ (u : Visit). u.number) (v ∷ []) (omega arith);
  visits = λ k below. absurd (let nil = ap length visits in omega (arith, below, nil));
  far = λ w. absurd (let same : Of goal ≡ Main = within_none E (Of goal) w in cc same);
  none = next;
  passed = λ number list inside has mark. absurd (passed list mark);
})
  where
    E : Edges
    E = among G.edges

    steps : List Step
    steps = steps_of G

    v : Visit
    v = record { number = 0; before = 0 }

    marked : AreMarked (replicate (length steps) false) (0 ∷ []) begun.is_found.items
    marked = rw found
        (one_marked (replicate (length steps) false) 0 (omega (arith, length-replicate (length steps) false)))

    only : (i : ℕ) → i < length steps → IsWithin E 0 (step_at steps i) → i ≡ 0
    only i inside w = same_number are i 0 inside (omega arith) (within_none E (step_at steps i) w)

-- Nothing leads to a vertex that the graph has not.
pub no_vertex : (G : GraphView) (goal : ModuleVersion) → IsGraph G → (Contains G.vertices goal → ⊥) → IsReached (among G.edges) (Of goal) → ⊥
no_vertex G goal are none (n, leads) = last n leads
  where
    last : (n : ℕ) → Leads (among G.edges) (Of goal) n → ⊥
    last _ (along {s} {n = k} l e) = none (are.ends (edge s goal) e)

-- A step that is no vertex is the main module.
pub main_step : (s : Step) → ((y : ModuleVersion) → s ≡ Of y → ⊥) → s ≡ Main
main_step Main none = refl
main_step (Of y) none = absurd (none y refl)

pub no_due : (due : List Visit) (n : ℕ) → length due ≡ n → (n == 0) ≡ true → due ≡ []
no_due [] n is h = refl
no_due (v ∷ due) n is h = absurd (let nil = eqb-true n 0 h in omega (arith, is, nil))

-- ---- the way back

module _ (E : Edges) (steps : List Step) (visits : List Visit) where
  pub back_begins : (goal : ModuleVersion) (p : ℕ) (items : List Step) → items ≡ Of goal ∷ []
      → IsPredecessor E (visited_step steps visits p) goal → (c : List Step) → IsChain E (visited_step steps visits p) c
      → IsChain E (Of goal) (c ++ reverse items)
  back_begins goal p items is before c h = rw is (goes_on h before)

  -- one step back
  pub back_more : (goal : ModuleVersion) (k : ℕ) (x : ModuleVersion) (items more : List Step) → IsTraced E steps visits k (visit_at visits k)
      → visited_step steps visits k ≡ Of x → more ≡ items ++ Of x ∷ []
      → ((c : List Step) → IsChain E (visited_step steps visits k) c → IsChain E (Of goal) (c ++ reverse items))
      → ((visit_at visits k).before < k) × ((c : List Step)
      → IsChain E (visited_step steps visits (visit_at visits k).before) c → IsChain E (Of goal) (c ++ reverse more))
  back_more goal k x items more (low, inl main) at is chain = absurd (let wrong : Main ≡ Of x = sym main ∙ at in cc wrong)
  back_more goal k x items more (low, inr (y, same, below, before)) at is chain = (below, λ c h. longer c (goes_on h before))
    where
      longer : (c : List Step) → IsChain E (Of y) (c ++ Of y ∷ []) → IsChain E (Of goal) (c ++ reverse more)
      longer c h =
          let alike : Of y ≡ Of x = sym same ∙ at in
          rw⁻¹ (append_assoc c (Of x ∷ []) (reverse items) ∙ ap (λ (l : List Step). c ++ l) (sym (ap reverse is ∙ reverse-append items (Of x ∷ []))))
          (chain (c ++ Of x ∷ []) (rw at
          (rw⁻¹ alike h)))

  -- The main module was reached.
  pub back_done : (goal : ModuleVersion) (at : Step) (items all : List Step) → at ≡ Main
      → all ≡ reverse (items ++ Main ∷ []) → ((c : List Step) → IsChain E at c
      → IsChain E (Of goal) (c ++ reverse items)) → IsChain E (Of goal) all
  back_done goal at items all main is chain = rw (is ∙ reverse-append items (Main ∷ []))
      (chain (Main ∷ []) (rw main begins))
