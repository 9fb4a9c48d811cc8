-- A breadth-first search for a vertex over the steps of a module graph.
use Rattle.std.specs.Prelude.{◌≡◌, ◌≢◌, ◌↔◌, ◌<◌, ◌≤◌, ◌⊎◌, ◌+◌, ◌-◌, ◌++◌, ℕ, suc, Bool, List, [], length, map, slice_index_or, sum_by, Contains, if◌then◌else◌}
use Rattle.std.specs.List.Sorted.{IsNonDecreasingBy}
use Rattle.gm_name.specs.ModuleVersion.{ModuleVersion}
use Rattle.gm_graph_select.specs.declared.step.Step.{Step}
use Rattle.gm_graph_select.specs.declared.step.Step.TheVariants.{Main, Of}
use Rattle.gm_graph_select.specs.declared.searching.Visit.{Visit}
use Rattle.gm_graph_select.specs.declared.searching.Search.{Search}
use Rattle.gm_graph_select.specs.Adjacency.{GraphView}
use Rattle.gm_graph_select.specs.Graph.{Edges, among}
use Rattle.gm_graph_select.specs.Chains.{IsLevel, IsPredecessor, Leads}
use Rattle.gm_graph_select.specs.Private.Marking.{AreMarked, HasMark}
use Rattle.gm_graph_select.specs.Private.Numbering.{HasList, step_at, steps_of}

-- A path of at most that many edges leads from the main module to the step.
abbrev pub IsWithin : Edges → ℕ → Step → Type 0
IsWithin edges level s = (n : ℕ) × (n ≤ level) × Leads edges s n

-- ---- visits

-- the visit at a place: one of the main module if there is none
abbrev pub visit_at : List Visit → ℕ → Visit
visit_at visits place = slice_index_or visits place (record { number = 0; before = 0 })

-- the step that was visited at a place
abbrev pub visited_step : List Step → List Visit → ℕ → Step
visited_step steps visits place = step_at steps (visit_at visits place).number

-- A visit is of a step that has a number: of the main module, or it names an earlier place, at which its step's
-- predecessor was visited.
abbrev pub IsTraced : Edges → List Step → List Visit → ℕ → Visit → Type 0
IsTraced edges steps visits place visit = (visit.number < length steps) × ((step_at steps visit.number ≡ Main)
    ⊎ ((y : ModuleVersion) × (step_at steps visit.number ≡ Of y) × (visit.before < place)
    × IsPredecessor edges (visited_step steps visits visit.before) y))

-- each of the visits
abbrev pub AreTraced : Edges → List Step → List Visit → Type 0
AreTraced edges steps visits = (k : ℕ) → k < length visits → IsTraced edges steps visits k (visit_at visits k)

-- The last visit is of the goal's predecessor.
pub record IsTracedTo (graph : GraphView) (goal : ModuleVersion) (visits : List Visit) : Type 0 where
  pub each : AreTraced (among graph.edges) (steps_of graph) visits
  pub some : 0 < length visits
  pub last : IsPredecessor (among graph.edges) (visited_step (steps_of graph) visits (length visits - 1)) goal

-- the numbers of the steps that are visited
abbrev pub numbers_visited : List Visit → List ℕ
numbers_visited visits = map (λ visit. visit.number) visits

-- ---- what was found

-- how many steps were not found
abbrev pub count_left : List Bool → ℕ
count_left found = sum_by (λ is_found. if is_found then 0 else 1) found

-- An edge leads from the step with a number to the step with another.
abbrev pub IsEdgeTo : GraphView → ℕ → ℕ → Type 0
IsEdgeTo graph from to = (to < length (steps_of graph)) × (y : ModuleVersion)
    × (step_at (steps_of graph) to ≡ Of y) × among graph.edges (step_at (steps_of graph) from) y

-- The edges that leave the step with a number lead to vertices that aren't the goal, and whose steps were found.
abbrev pub AreEndsFound : GraphView → ModuleVersion → List Bool → ℕ → Type 0
AreEndsFound graph goal found number = (y : ModuleVersion) → among graph.edges (step_at (steps_of graph) number) y
    → (y ≢ goal) × ((i : ℕ) → i < length (steps_of graph) → step_at (steps_of graph) i ≡ Of y → HasMark found i)

-- So do those that leave a step whose list was passed.
abbrev pub ArePassed : GraphView → ModuleVersion → List Bool → List Bool → Type 0
ArePassed graph goal found passed = (number list : ℕ) → number < length (steps_of graph) → HasList graph number list
    → HasMark passed list → AreEndsFound graph goal found number

-- From one state of a search to another, the steps found are those of new visits to the next level. These name this
-- place, and the numbers of their steps are such numbers.
pub record AreNewVisits (place : ℕ) (IsSuch : ℕ → Type 0) (old new : Search) : Type 0 where
  pub more : List Visit
  pub next : new.next.items ≡ old.next.items ++ more
  pub found : AreMarked old.is_found.items (numbers_visited more) new.is_found.items
  pub count : count_left new.is_found.items + length more ≡ count_left old.is_found.items
  pub each : (v : Visit) → Contains more v → (v.before ≡ place) × IsSuch v.number
      × (HasMark old.is_found.items v.number → ⊥)

-- A visit of a step of the level, which names the place at which the step's predecessor was visited.
abbrev pub IsVisitDue : GraphView → ℕ → List Visit → Visit → Type 0
IsVisitDue graph level visits visit = IsLevel (among graph.edges) (step_at (steps_of graph) visit.number) level
    × IsTraced (among graph.edges) (steps_of graph) visits (length visits) visit

-- All steps up to a level were visited but those due, which are the steps of the level in ascending order. The steps
-- found are exactly those up to the level, and the goal is none of these.
pub record IsSearchedTo (graph : GraphView) (goal : ModuleVersion) (level : ℕ) (search : Search)
    (due : List Visit) : Type 0 where
  pub size : length search.is_found.items ≡ length (steps_of graph)
  pub found : (i : ℕ) → i < length (steps_of graph)
      → HasMark search.is_found.items i ↔ IsWithin (among graph.edges) level (step_at (steps_of graph) i)
  pub listed : (i : ℕ) → i < length (steps_of graph)
      → IsLevel (among graph.edges) (step_at (steps_of graph) i) level
      → (v : Visit) × Contains due v × (v.number ≡ i)
  pub each : (v : Visit) → Contains due v → IsVisitDue graph level search.visits.items v
  pub ascending : IsNonDecreasingBy (λ visit. visit.number) due
  pub visits : AreTraced (among graph.edges) (steps_of graph) search.visits.items
  pub far : IsWithin (among graph.edges) level (Of goal) → ⊥
  pub none : search.next.items ≡ []
  pub passed : ArePassed graph goal search.is_found.items search.is_passed.items

-- These visits of the level were made, and none found the goal: the steps found are those found before and those of
-- the next level that edges lead to from the visited steps.
pub record IsFollowed (graph : GraphView) (goal : ModuleVersion) (level : ℕ) (before : List Bool) (made : List Visit)
    (search : Search) : Type 0 where
  pub found : AreMarked before (numbers_visited search.next.items) search.is_found.items
  pub count : count_left search.is_found.items + length search.next.items ≡ count_left before
  pub each : (v : Visit) → Contains search.next.items v → IsVisitDue graph (suc level) search.visits.items v
  pub ends : (v : Visit) → Contains made v → AreEndsFound graph goal search.is_found.items v.number
  pub visits : AreTraced (among graph.edges) (steps_of graph) search.visits.items
  pub passed : ArePassed graph goal search.is_found.items search.is_passed.items
