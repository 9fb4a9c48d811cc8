-- A copy from crates/gm_graph_select/specs/BuildList.antt, which tools/check/headline.py writes.
use Rattle.std.specs.Prelude.{◌≡◌, ◌≢◌, ℕ, List, ◌∷◌, ◌++◌, Option, Contains}
use Rattle.page_commands.specs.Types.Step.{Step, Main, Of}

-- the path of an entry: the main module's, or that of its vertex
abbrev pub path_of : List ℕ → Step → List ℕ
path_of main Main = main
path_of main (Of x) = x.0

-- An entry has the path.
abbrev pub HasEntryFor : {R : Type 0} → List ℕ → List (Step × Option R) → List ℕ → Type 0
HasEntryFor {R} main entries path = (entry : Step × Option R) × Contains entries entry × (path_of main entry.0 ≡ path)

-- the first entry of the path, and what follows it
pub record IsAt {R : Type 0} (main : List ℕ) (entries : List (Step × Option R)) (path : List ℕ)
    (entry : Step × Option R) (rest : List (Step × Option R)) : Type 0 where
  pub before : List (Step × Option R)
  pub parts : entries ≡ before ++ entry ∷ rest
  pub path_is : path_of main entry.0 ≡ path
  pub others : (other : Step × Option R) → Contains before other → path_of main other.0 ≢ path

-- the step that the list has for a path: the main module or a vertex
abbrev pub IsEntryOf : {R : Type 0} → List ℕ → List (Step × Option R) → List ℕ → Step → Type 0
IsEntryOf {R} main entries path s = (entry : Step × Option R) × (rest : List (Step × Option R))
    × IsAt main entries path entry rest × (entry.0 ≡ s)
