-- How `graph` and `chain` end, computed from the edges, and that they do.
use Rattle.std.proofs.Common.{◌≡◌, ◌∙◌, ◌++◌, ◌&&◌, ◌||◌, ◌==◌, ◌≤◌, ℕ, zero, suc, Bool, true, false, List, [], ◌∷◌, Option, Some, None, Contains, ap, arith, inl, inr, map, nat_eq, not, refl, subst, sym}
use Rattle.std.specs.Prelude.{if◌then◌else◌, nat_le}
use Rattle.std.specs.Cmp.Lexicographic.{pointwise}
use Rattle.std.specs.Ordering.{is_lt}
use Rattle.std.proofs.lemmas.Bool.{and_parts, eq-eqb, eqb-true, false≢true, leb-true, not-true, or_cases}
use Rattle.std.proofs.lemmas.Option.{same_Some}
use Rattle.page_commands.specs.BuildList.{HasEntryFor, IsAt, path_of}
use Rattle.page_commands.specs.ChainQuery.{ShowsChain, chain_text}
use Rattle.page_commands.specs.Chains.{IsChain, IsLevel, IsPredecessor, Leads, along, at_main, begins, goes_on}
use Rattle.page_commands.specs.Entries.{Entry}
use Rattle.page_commands.specs.Graph.{Edges, edge_cmp, step_cmp}
use Rattle.page_commands.specs.GraphQuery.{graph_text}
use Rattle.page_commands.specs.ModuleVersion.{ModuleVersion, pair_eq}
use Rattle.page_commands.specs.Outcome.{Outcome, refusal_outcome, text_outcome}
use Rattle.page_commands.specs.Reports.{not_listed_line}
use Rattle.page_commands.specs.Types.Edge.{Edge}
use Rattle.page_commands.specs.Types.Step.{Main, Of, Step}
use Rattle.page_commands.specs.Worlds.{prints}
use Rattle.page_commands.specs.Worlds.Chains.{ChainHolds, ChainWorld, ChainsAreShown, EdgePair, GraphHolds, GraphWorld, GraphsAreShown, LevelsAreLeast, graph_worlds, level_worlds, path_worlds, run_of}
use Rattle.page_commands.proofs.Members.{appended, ascending, ascends, differ, every, every_one, member_cases, member_head, member_tail, no_member, pair_itself, pair_same, some, some_one, sorted, text_same}
use Rattle.page_commands.proofs.OnLiterals.{on_literals}
use Rattle.page_commands.proofs.Rows.{all_so}

-- ---- steps

abbrev same_step : Step → Step → Bool
same_step Main Main = true
same_step (Of x) (Of y) = pair_eq x y
same_step _ _ = false

step_same : (s t : Step) → same_step s t ≡ true → s ≡ t
step_same Main Main h = refl
step_same (Of x) (Of y) h = ap (λ (z : ModuleVersion). Of z) (pair_same x y h)
step_same Main (Of y) h = absurd (false≢true h)
step_same (Of x) Main h = absurd (false≢true h)

step_itself : (s : Step) → same_step s s ≡ true
step_itself Main = refl
step_itself (Of x) = pair_itself x

abbrev same_edge : EdgePair → EdgePair → Bool
same_edge one other = same_step one.0 other.0 && pair_eq one.1 other.1

edge_same : (one other : EdgePair) → same_edge one other ≡ true → one ≡ other
edge_same one other h =
    let p = and_parts (same_step one.0 other.0) (pair_eq one.1 other.1) h in
    ap (λ (s : Step). (s, one.1)) (step_same one.0 other.0 p.0) ∙ ap (λ (y : ModuleVersion). (other.0, y)) (pair_same one.1 other.1 p.1)

abbrev has_edge : List EdgePair → EdgePair → Bool
has_edge es one = some (λ (other : EdgePair). same_edge other one) es

edge_there : (es : List EdgePair) (one : EdgePair) → has_edge es one ≡ true → Contains es one
edge_there es one h = let found = some_one (λ (other : EdgePair). same_edge other one) es h in subst (Contains es) (edge_same found.0 one found.2) found.1

-- ---- graph

abbrev edge_of : EdgePair → Edge
edge_of one = record { from = one.0; to = one.1 }

abbrev pair_of : Edge → EdgePair
pair_of one = (one.from, one.to)

abbrev in_order : List EdgePair → List Edge
in_order es = sorted edge_cmp (map edge_of es)

abbrev is_edge_list : List EdgePair → List Edge → Bool
is_edge_list es found =
    ascends edge_cmp found && (every (λ (one : Edge). has_edge es (pair_of one)) found
    && every (λ (one : EdgePair). has_edge (map pair_of found) one) es)

mapped : (es : List Edge) (one : Edge) → Contains (map pair_of es) (pair_of one) → Contains es one
mapped [] one there = absurd (no_member (pair_of one) there)
mapped (e ∷ es) one there = elim (member_cases (pair_of e) (pair_of one) (map pair_of es) there) [
  | inl same ↦ subst (Contains (e ∷ es)) (ap edge_of same) (member_head e es)
  | inr later ↦ member_tail e one es (mapped es one later)
]

abbrev graph_ending : List EdgePair → Option (List ℕ)
graph_ending es = if is_edge_list es (in_order es) then Some (graph_text (run_of es []).main.path (in_order es)) else None

abbrev GraphIsTold : GraphWorld → Type 0
GraphIsTold w = graph_ending w.0 ≡ Some w.1

graph_so : (w : GraphWorld) → GraphIsTold w → GraphHolds w
graph_so (es, text) is = by_test (is_edge_list es (in_order es)) refl is
  where
    by_test : (b : Bool) → is_edge_list es (in_order es) ≡ b
        → (if b then Some (graph_text (run_of es []).main.path (in_order es)) else None) ≡ Some text → GraphHolds (es, text)
    by_test false e f = absurd (cc f)
    by_test true e f =
        let p = and_parts (ascends edge_cmp (in_order es)) _ e in
        let q = and_parts (every (λ (one : Edge). has_edge es (pair_of one)) (in_order es)) _ p.1 in (
          in_order es,
          record {
            ascending = ascending edge_cmp (in_order es) p.0;
            each = λ one. (
              λ there. edge_there es (pair_of one) (every_one (λ (other : Edge). has_edge es (pair_of other)) (in_order es) q.0 one there),
              λ there. mapped (in_order es) one (edge_there (map pair_of (in_order es)) (pair_of one)
                  (every_one (λ (other : EdgePair). has_edge (map pair_of (in_order es)) other) es q.1 (pair_of one) there)),
            );
          },
          ap prints (sym (same_Some _ _ f)),
        )

-- ---- levels

-- a step and its level
abbrev Row : Type 0
Row = Step × ℕ

abbrev level_in : List Row → Step → Option ℕ
level_in [] s = None
level_in (row ∷ rows) s = if same_step row.0 s then Some row.1 else level_in rows s

abbrev is_level : ℕ → Option ℕ → Bool
is_level n None = false
is_level n (Some k) = k == n

abbrev is_no : Option ℕ → Bool
is_no None = true
is_no (Some k) = false

-- an edge leads at most one level further
abbrev goes_to : Option ℕ → Option ℕ → Bool
goes_to None r = true
goes_to (Some n) None = false
goes_to (Some n) (Some k) = nat_le k (suc n)

level_so : (n : ℕ) (r : Option ℕ) → is_level n r ≡ true → r ≡ Some n
level_so n None h = absurd (false≢true h)
level_so n (Some k) h = ap (λ (m : ℕ). Some m) (eqb-true k n h)

module _ (es : List EdgePair) where
  abbrev edges : Edges
  edges s y = Contains es (s, y)

  -- the rows after those of the next level
  abbrev with_edges : List EdgePair → ℕ → List Row → List Row
  with_edges [] n rows = rows
  with_edges (one ∷ more) n rows =
      with_edges more n (if is_level n (level_in rows one.0) && is_no (level_in rows (Of one.1)) then rows ++ (Of one.1, suc n) ∷ [] else rows)

  abbrev grown : ℕ → ℕ → List Row → List Row
  grown zero n rows = rows
  grown (suc k) n rows = grown k (suc n) (with_edges es n rows)

  -- no world has more levels
  abbrev levels : List Row
  levels = grown 4 0 ((Main, 0) ∷ [])

  abbrev has_row : List Row → Step → ℕ → Bool
  has_row rows s n = some (λ (row : Row). same_step row.0 s && row.1 == n) rows

  abbrev is_led : List Row → Step → ℕ → Bool
  is_led before Main n = n == 0
  is_led before (Of y) zero = false
  is_led before (Of y) (suc n) = some (λ (one : EdgePair). pair_eq one.1 y && has_row before one.0 n) es

  abbrev are_led : List Row → List Row → Bool
  are_led before [] = true
  are_led before (row ∷ rows) = is_led before row.0 row.1 && are_led (row ∷ before) rows

  abbrev is_covered : List Row → EdgePair → Bool
  is_covered rows one = goes_to (level_in rows one.0) (level_in rows (Of one.1))

  -- ---- the predecessor and the chain

  abbrev is_rival : Step → ModuleVersion → ℕ → EdgePair → Bool
  is_rival s y n one = not (pair_eq one.1 y && is_level n (level_in levels one.0)) || not (is_lt (step_cmp one.0 s))

  abbrev is_before : Step → ModuleVersion → ℕ → Bool
  is_before s y n = has_edge es (s, y) && (is_level n (level_in levels s) && (is_level (suc n) (level_in levels (Of y))
      && every (is_rival s y n) es))

  abbrev lesser : Step → Option Step → Option Step
  lesser s None = Some s
  lesser s (Some t) = Some (if is_lt (step_cmp t s) then t else s)

  -- the least step of a level with an edge to the vertex
  abbrev step_before : List EdgePair → ModuleVersion → ℕ → Option Step
  step_before [] y n = None
  step_before (one ∷ more) y n =
      if pair_eq one.1 y && is_level n (level_in levels one.0) then lesser one.0 (step_before more y n) else step_before more y n

  abbrev extended : ModuleVersion → Option (List Step) → Option (List Step)
  extended y None = None
  extended y (Some steps) = Some (steps ++ Of y ∷ [])

  abbrev checked : ModuleVersion → ℕ → Option Step → (Step → Option (List Step)) → Option (List Step)
  checked y n None go = None
  checked y n (Some s) go = if is_before s y n then extended y (go s) else None

  abbrev chain : ℕ → Step → Option (List Step)
  chain n Main = Some (Main ∷ [])
  chain zero (Of y) = None
  chain (suc n) (Of y) = checked y n (step_before es y n) (λ s. chain n s)

  -- ---- levels

  abbrev AllLead : List Row → Type 0
  AllLead rows = (row : Row) → Contains rows row → Leads edges row.0 row.1

  row_leads : (before : List Row) (s : Step) (n : ℕ) → AllLead before → is_led before s n ≡ true → Leads edges s n
  row_leads before Main n lead h = subst (Leads edges Main) (sym (eqb-true n 0 h)) at_main
  row_leads before (Of y) zero lead h = absurd (false≢true h)
  row_leads before (Of y) (suc n) lead h =
      let (one, there, both) = some_one (λ (one : EdgePair). pair_eq one.1 y && has_row before one.0 n) es h in
      let p = and_parts (pair_eq one.1 y) (has_row before one.0 n) both in
      let (row, inside, same) = some_one (λ (row : Row). same_step row.0 one.0 && row.1 == n) before p.1 in
      let q = and_parts (same_step row.0 one.0) (row.1 == n) same in
      let leads : Leads edges one.0 n = subst (λ (s : Step). Leads edges s n) (step_same row.0 one.0 q.0)
      (subst (Leads edges row.0) (eqb-true row.1 n q.1) (lead row inside)) in
      subst (λ (z : ModuleVersion). Leads edges (Of z) (suc n)) (pair_same one.1 y p.0) (along leads there)

  rows_lead : (before rows : List Row) → AllLead before → are_led before rows ≡ true → AllLead rows
  rows_lead before [] lead h row there = absurd (no_member row there)
  rows_lead before (first ∷ rows) lead h row there =
      let p = and_parts (is_led before first.0 first.1) (are_led (first ∷ before) rows) h in
      let own : Leads edges first.0 first.1 = row_leads before first.0 first.1 lead p.0 in
      elim (member_cases first row rows there) [
        | inl same ↦ subst (λ (r : Row). Leads edges r.0 r.1) same own
        | inr later ↦ rows_lead (first ∷ before) rows (λ other inside. elim (member_cases first other before inside) [
          | inl same ↦ subst (λ (r : Row). Leads edges r.0 r.1) same own
          | inr rest ↦ lead other rest
        ]) p.1 row later
      ]

  level_there : (rows : List Row) (s : Step) (n : ℕ) → level_in rows s ≡ Some n → Contains rows (s, n)
  level_there [] s n h = absurd (cc h)
  level_there (row ∷ rows) s n h = by_test (same_step row.0 s) refl h (level_there rows s n)
    where
      by_test : (b : Bool) → same_step row.0 s ≡ b → (if b then Some row.1 else level_in rows s) ≡ Some n
          → (level_in rows s ≡ Some n → Contains rows (s, n)) → Contains (row ∷ rows) (s, n)
      by_test true like f later = subst (λ (k : ℕ). Contains (row ∷ rows) (s, k)) (same_Some _ _ f)
          (subst (λ (t : Step). Contains (row ∷ rows) (t, row.1)) (step_same row.0 s like) (member_head row rows))
      by_test false unlike f later = member_tail row (s, n) rows (later f)

  module _ (are_so : are_led [] levels ≡ true) (starts : level_in levels Main ≡ Some 0) (covered : every (is_covered levels) es ≡ true) where
    leads_there : (s : Step) (n : ℕ) → level_in levels s ≡ Some n → Leads edges s n
    leads_there s n at = rows_lead [] levels (λ row none. absurd (no_member row none)) are_so (s, n) (level_there levels s n at)

    further : (k n : ℕ) (r : Option ℕ) → k ≤ n → goes_to (Some k) r ≡ true → (j : ℕ) × (r ≡ Some j) × (j ≤ suc n)
    further k n None le h = absurd (false≢true h)
    further k n (Some j) le h = let below = leb-true j (suc k) h in (j, refl, omega (arith, below, le))

    bound : (s : Step) (n : ℕ) → Leads edges s n → (k : ℕ) × (level_in levels s ≡ Some k) × (k ≤ n)
    bound _ _ at_main = (0, starts, omega arith)
    bound _ _ (along {s} {y} {n} lead there) =
        let (k, at, le) = bound s n lead in
        further k n (level_in levels (Of y)) le (subst (λ (r : Option ℕ). goes_to r (level_in levels (Of y)) ≡ true) at
        (every_one (is_covered levels) es covered (s, y) there))

    level_is : (s : Step) (n : ℕ) → level_in levels s ≡ Some n → IsLevel edges s n
    level_is s n at = record {
      leads = leads_there s n at;
      least = λ m lead. let (k, other, le) = bound s m lead in
          let same : n ≡ k = same_Some _ _ (sym at ∙ other) in omega (arith, le, same);
    }

    level_back : (s : Step) (n : ℕ) → IsLevel edges s n → level_in levels s ≡ Some n
    level_back s n is =
        let (k, at, le) = bound s n is.leads in
        let other = is.least k (leads_there s k at) in
        let same : k ≡ n = omega (arith, le, other) in at ∙ ap (λ (m : ℕ). Some m) same

    -- ---- the predecessor

    not_less : (t s : Step) (y : ModuleVersion) (n : ℕ) → level_in levels t ≡ Some n → is_rival s y n (t, y) ≡ true
        → is_lt (step_cmp t s) ≡ false
    not_less t s y n at h = elim (or_cases (not (pair_eq y y && is_level n (level_in levels t))) (not (is_lt (step_cmp t s))) h) [
      | inl never ↦ absurd (false≢true (sym (not-true _ never) ∙ is_one))
      | inr is ↦ not-true (is_lt (step_cmp t s)) is
    ]
      where
        is_one : (pair_eq y y && is_level n (level_in levels t)) ≡ true
        is_one = rw (pair_itself y, at) (eq-eqb n n refl)

    before_so : (s : Step) (y : ModuleVersion) (n : ℕ) → is_before s y n ≡ true → IsPredecessor edges s y
    before_so s y n h =
        let p = and_parts (has_edge es (s, y)) _ h in
        let q = and_parts (is_level n (level_in levels s)) _ p.1 in
        let r = and_parts (is_level (suc n) (level_in levels (Of y))) _ q.1 in record {
          is_edge = edge_there es (s, y) p.0;
          level = n;
          nearer = level_is s n (level_so n (level_in levels s) q.0);
          further = level_is (Of y) (suc n) (level_so (suc n) (level_in levels (Of y)) r.0);
          least = λ t there is. search (not_less t s y n (level_back t n is) (every_one (is_rival s y n) es r.1 (t, y) there));
        }

    -- ---- the chain

    chain_is : (s : Step) (one other : List Step) → IsChain edges s one → one ≡ other → IsChain edges s other
    chain_is s one other chain same = subst (IsChain edges s) same chain

    chain_so : (n : ℕ) (s : Step) (steps : List Step) → chain n s ≡ Some steps → IsChain edges s steps
    chain_so n Main steps h = subst (IsChain edges Main) (same_Some _ _ h) begins
    chain_so zero (Of y) steps h = absurd (cc h)
    chain_so (suc n) (Of y) steps h = by_step (step_before es y n) h (chain_so n)
      where
        by_steps : (s : Step) (r : Option (List Step)) → chain n s ≡ r → is_before s y n ≡ true → extended y r ≡ Some steps
            → ((t : Step) (more : List Step) → chain n t ≡ Some more → IsChain edges t more) → IsChain edges (Of y) steps
        by_steps s None e is f so = absurd (cc f)
        by_steps s (Some more) e is f so = chain_is (Of y) _ steps (goes_on (so s more e) (before_so s y n is)) (search (appended, same_Some _ _ f))

        by_test : (s : Step) (b : Bool) → is_before s y n ≡ b → (if b then extended y (chain n s) else None) ≡ Some steps
            → ((t : Step) (more : List Step) → chain n t ≡ Some more → IsChain edges t more) → IsChain edges (Of y) steps
        by_test s true is f so = by_steps s (chain n s) refl is f so
        by_test s false is f so = absurd (cc f)

        by_step : (r : Option Step) → checked y n r (λ s. chain n s) ≡ Some steps
            → ((t : Step) (more : List Step) → chain n t ≡ Some more → IsChain edges t more) → IsChain edges (Of y) steps
        by_step None f so = absurd (cc f)
        by_step (Some s) f so = by_test s (is_before s y n) refl f so

-- ---- the entry of a path

module _ (main : List ℕ) (path : List ℕ) where
  abbrev entry_in : List Entry → Option (Entry × List Entry)
  entry_in [] = None
  entry_in (one ∷ entries) = if pointwise nat_eq (path_of main one.0) path then Some (one, entries) else entry_in entries

  later_at : (one entry : Entry) (entries rest : List Entry) → pointwise nat_eq (path_of main one.0) path ≡ false
      → IsAt main entries path entry rest → IsAt main (one ∷ entries) path entry rest
  later_at one entry entries rest unlike at = record {
    before = one ∷ at.before;
    parts = ap (λ (es : List Entry). one ∷ es) at.parts;
    path_is = at.path_is;
    others = λ other there. elim (member_cases one other at.before there) [
      | inl same ↦ subst (λ (e : Entry). path_of main e.0 ≡ path → ⊥) same (differ (path_of main one.0) path unlike)
      | inr later ↦ at.others other later
    ];
  }

  entry_so : (entries : List Entry) (found : Entry × List Entry) → entry_in entries ≡ Some found → IsAt main entries path found.0 found.1
  entry_so [] found h = absurd (cc h)
  entry_so (one ∷ entries) found h = by_test (pointwise nat_eq (path_of main one.0) path) refl h (entry_so entries found)
    where
      by_test : (b : Bool) → pointwise nat_eq (path_of main one.0) path ≡ b → (if b then Some (one, entries) else entry_in entries) ≡ Some found
          → (entry_in entries ≡ Some found → IsAt main entries path found.0 found.1) → IsAt main (one ∷ entries) path found.0 found.1
      by_test true like f later = subst (λ (it : Entry × List Entry). IsAt main (one ∷ entries) path it.0 it.1) (same_Some _ _ f) (record {
        before = [];
        parts = refl;
        path_is = text_same (path_of main one.0) path like;
        others = λ other there. absurd (no_member other there);
      })
      by_test false unlike f later = later_at one found.0 entries found.1 unlike (later f)

  none_so : (entries : List Entry) → entry_in entries ≡ None → HasEntryFor main entries path → ⊥
  none_so [] h (entry, there, is) = no_member entry there
  none_so (one ∷ entries) h (entry, there, is) = by_test (pointwise nat_eq (path_of main one.0) path) refl h (none_so entries)
    where
      by_test : (b : Bool) → pointwise nat_eq (path_of main one.0) path ≡ b → (if b then Some (one, entries) else entry_in entries) ≡ None
          → (entry_in entries ≡ None → HasEntryFor main entries path → ⊥) → ⊥
      by_test true like f none = cc f
      by_test false unlike f none = elim (member_cases one entry entries there) [
        | inl same ↦ differ (path_of main one.0) path unlike (subst (λ (e : Entry). path_of main e.0 ≡ path) (sym same) is)
        | inr later ↦ none f (entry, later, is)
      ]

-- ---- how it ends

abbrev outcome_of : List ℕ → Option (List Step) → Option Outcome
outcome_of main None = None
outcome_of main (Some steps) = Some (text_outcome (chain_text main steps))

module _ (es : List EdgePair) (rows : List Entry) (path : List ℕ) where
  abbrev main_path : List ℕ
  main_path = (run_of es []).main.path

  abbrev is_tested : Bool
  is_tested = are_led es [] (levels es) && (is_level 0 (level_in (levels es) Main) && every (is_covered es (levels es)) es)

  abbrev level_ending : Step → Option ℕ → Option Outcome
  level_ending s None = None
  level_ending s (Some n) = if is_tested then outcome_of main_path (chain es n s) else None

  abbrev entry_ending : Option (Entry × List Entry) → Option Outcome
  entry_ending None = Some (refusal_outcome (not_listed_line path))
  entry_ending (Some found) = level_ending found.0.0 (level_in (levels es) found.0.0)

  abbrev chain_ending : Option Outcome
  chain_ending = entry_ending (entry_in main_path path rows)

  abbrev Shows : Outcome → Type 0
  Shows outcome = ShowsChain path (run_of es []).main (edges es) rows outcome

  by_entry : (outcome : Outcome) (r : Option (Entry × List Entry)) → entry_in main_path path rows ≡ r → entry_ending r ≡ Some outcome → Shows outcome
  by_entry outcome None e f = inr (none_so main_path path rows e, sym (same_Some _ _ f))
  by_entry outcome (Some found) e f = by_level (level_in (levels es) found.0.0) f
    where
      by_steps : (n : ℕ) (r : Option (List Step)) → chain es n found.0.0 ≡ r → is_tested ≡ true → outcome_of main_path r ≡ Some outcome → Shows outcome
      by_steps n None at is g = absurd (cc g)
      by_steps n (Some steps) at is g =
          let p = and_parts (are_led es [] (levels es)) _ is in
          let q = and_parts (is_level 0 (level_in (levels es) Main)) _ p.1 in
          inl (
            found.0.0,
            steps,
            (found.0, found.1, entry_so main_path path rows found e, refl),
            chain_so es p.0 (level_so 0 (level_in (levels es) Main) q.0) q.1 n found.0.0 steps at,
            sym (same_Some _ _ g),
          )

      by_test : (n : ℕ) (b : Bool) → is_tested ≡ b → (if b then outcome_of main_path (chain es n found.0.0) else None) ≡ Some outcome → Shows outcome
      by_test n true is g = by_steps n (chain es n found.0.0) refl is g
      by_test n false is g = absurd (cc g)

      by_level : (r : Option ℕ) → level_ending found.0.0 r ≡ Some outcome → Shows outcome
      by_level None g = absurd (cc g)
      by_level (Some n) g = by_test n is_tested refl g

abbrev ChainIsTold : ChainWorld → Type 0
ChainIsTold w = chain_ending w.0 (run_of w.0 w.1).rows w.2 ≡ Some w.3

chain_world_so : (w : ChainWorld) → ChainIsTold w → ChainHolds w
chain_world_so (es, vertices, path, outcome) is = ((run_of es vertices).rows, refl, by_entry es (run_of es vertices).rows path outcome _ refl is)

pub graphs_are_shown : GraphsAreShown
unfolding on_literals
graphs_are_shown = all_so GraphIsTold GraphHolds graph_so graph_worlds (refl, (refl, (refl, (refl, (refl, (refl, (refl, (refl, tt))))))))

pub chains_are_shown : ChainsAreShown
unfolding on_literals
chains_are_shown = all_so ChainIsTold ChainHolds chain_world_so path_worlds (refl, (refl, (refl, (refl, (refl, (refl, (refl, (refl, (refl, tt)))))))))

pub levels_are_least : LevelsAreLeast
unfolding on_literals
levels_are_least = all_so ChainIsTold ChainHolds chain_world_so level_worlds (refl, (refl, (refl, (refl, (refl, (refl, (refl, (refl, tt))))))))
