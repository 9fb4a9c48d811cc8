-- The build list by minimal version selection (Go Modules Reference, "Minimal version selection"), and the rest of
-- it after an entry.
use Rattle.std.specs.Prelude.{◌≡◌, ◌≢◌, ◌↔◌, ℕ, false, List, ◌∷◌, ◌++◌, map, Option, None, Contains}
use Rattle.std.specs.declared.cmp.Ordering.{Ordering}
use Rattle.std.specs.Ordering.{is_gt, nat_cmp}
use Rattle.std.specs.Cmp.Lexicographic.{slice_cmp}
use Rattle.gm_version.specs.Version.{version_cmp}
use Rattle.gm_name.specs.ModuleVersion.{ModuleVersion}
use Rattle.gm_graph_select.specs.declared.step.Step.{Step}
use Rattle.gm_graph_select.specs.declared.step.Step.TheVariants.{Main, Of}
use Rattle.gm_graph_select.specs.declared.row.Row.{Row}
use Rattle.gm_graph_select.specs.Graph.{Edges, IsEdgeEnd}
use Rattle.gm_graph_select.specs.Order.{IsAscending}

-- the entries of rows: a module of the build list, and what replaces it
abbrev pub entries_in : {R : Type 0} → List (Row R) → List (Step × Option R)
entries_in rows = map (λ row. (row.step, row.right)) rows

-- The path is not the main module's, an edge leads to the vertex, and none leads to a greater version of the path.
pub record IsSelected (main : List ℕ) (edges : Edges) (x : ModuleVersion) : Type 0 where
  pub not_main : x.0 ≢ main
  pub is_end : IsEdgeEnd edges x
  pub greatest : (y : ModuleVersion) → IsEdgeEnd edges y → y.0 ≡ x.0 → is_gt (version_cmp y.1 x.1) ≡ false

-- the order of vertices by the bytes of their paths alone
abbrev pub path_cmp : ModuleVersion → ModuleVersion → Ordering
path_cmp x y = slice_cmp nat_cmp x.0 y.0

-- the vertices that are selected, in strictly ascending order of the bytes of their paths
pub record AreSelected (main : List ℕ) (edges : Edges) (selected : List ModuleVersion) : Type 0 where
  pub ascending : IsAscending path_cmp selected
  pub each : (x : ModuleVersion) → Contains selected x ↔ IsSelected main edges x

abbrev pub main_entry : {R : Type 0} → Step × Option R
main_entry = (Main, None)

abbrev pub entry_of : {R : Type 0} → (ModuleVersion → Option R) → ModuleVersion → Step × Option R
entry_of replacement x = (Of x, replacement x)

-- The main module comes first, followed by the selected vertices in strictly ascending order of the bytes of their
-- paths, each with its replacement.
pub record IsBuildList {R : Type 0} (main : List ℕ) (replacement : ModuleVersion → Option R) (edges : Edges)
    (entries : List (Step × Option R)) : Type 0 where
  pub selected : List ModuleVersion
  pub entries_are : entries ≡ main_entry ∷ map (entry_of replacement) selected
  pub ascending : IsAscending path_cmp selected
  pub each : (x : ModuleVersion) → Contains selected x ↔ IsSelected main edges x

-- ---- entries by their path

-- the path of an entry: the main module's, or that of its vertex
abbrev pub path_of : List ℕ → Step → List ℕ
path_of main Main = main
path_of main (Of x) = x.0

-- An entry has the path.
abbrev pub HasEntryFor : {R : Type 0} → List ℕ → List (Step × Option R) → List ℕ → Type 0
HasEntryFor {R} main entries path = (entry : Step × Option R) × Contains entries entry × (path_of main entry.0 ≡ path)

-- the first entry of the path, and what follows it
pub record IsAt {R : Type 0} (main : List ℕ) (entries : List (Step × Option R)) (path : List ℕ)
    (entry : Step × Option R) (rest : List (Step × Option R)) : Type 0 where
  pub before : List (Step × Option R)
  pub parts : entries ≡ before ++ entry ∷ rest
  pub path_is : path_of main entry.0 ≡ path
  pub others : (other : Step × Option R) → Contains before other → path_of main other.0 ≢ path

-- what follows the entry of a path
abbrev pub IsRestAfter : {R : Type 0} → List ℕ → List (Step × Option R) → List ℕ → List (Step × Option R) → Type 0
IsRestAfter {R} main entries path rest = (entry : Step × Option R) × IsAt main entries path entry rest

-- the step that the list has for a path: the main module or a vertex
abbrev pub IsEntryOf : {R : Type 0} → List ℕ → List (Step × Option R) → List ℕ → Step → Type 0
IsEntryOf {R} main entries path s = (entry : Step × Option R) × (rest : List (Step × Option R))
    × IsAt main entries path entry rest × (entry.0 ≡ s)
