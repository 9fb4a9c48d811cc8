-- What a store's answers mean for the module graph of a main module's file: which modules are opened, and the edges,
-- faults, rows and needed files (Go Modules Reference, "Minimal version selection" and "Module graph pruning").
use Rattle.std.specs.Prelude.{◌≡◌, ◌↔◌, ◌⊎◌, ◌<◌, ◌≤◌, ◌++◌, ◌∷◌, true, false, List, [], length, AllPairs, Contains, Option, None, Ok, Err, Result, Some}
use Rattle.std.specs.List.{IsDistinct}
use Rattle.std.specs.declared.cmp.Ordering.TheVariants.{Less}
use Rattle.gm_name.specs.ModuleVersion.{ModuleVersion, pair_cmp, pair_eq}
use Rattle.gm_file.specs.Fields.{Dependency}
use Rattle.gm_store_parts.specs.Asked.{Reply, Name, answer_in, same_name}
use Rattle.gm_store_sums.specs.Sums.{Sums}
use Rattle.gm_graph_files.specs.declared.class.Class.{Class}
use Rattle.gm_graph_files.specs.declared.depth.Depth.{Depth}
use Rattle.gm_graph_files.specs.declared.depth.Depth.TheVariants.{Top, Deep}
use Rattle.gm_graph_files.specs.declared.depth.Turn.{Turn}
use Rattle.gm_graph.specs.declared.fault.Fault.{Fault}
use Rattle.gm_file.specs.Main.{Main, is_pruned_by, replacement_in, without_excluded}
use Rattle.gm_graph_files.specs.Reading.{IsFileReading, file_of, is_askable}
use Rattle.gm_graph_files.specs.Turns.{same_turn, turn}
use Rattle.gm_graph_select.specs.declared.step.Edge.{Edge}
use Rattle.gm_graph_select.specs.declared.step.Step.{Step}
use Rattle.gm_graph_select.specs.declared.step.Step.TheVariants.{Main as FromMain, Of}
use Rattle.gm_graph_select.specs.BuildList.{IsBuildList}
use Rattle.gm_graph.specs.Entries.{Entry}
use Rattle.gm_graph_select.specs.Graph.{IsEdgeEnd, edge_cmp}
use Rattle.gm_graph_select.specs.Order.{IsAscending}
use Rattle.gm_graph_cache.specs.Sayings.{Requires, Run, Says}

-- ---- what is opened

-- What the main file requires, except what it excludes, is opened at the top.
abbrev pub IsTop : Run → ModuleVersion → Type 0
IsTop run x = Contains (without_excluded run.main run.main.requirements) x

-- The modules that are opened at full depth: what the main file requires, if it is not pruned; what a module at the top
-- requires, if its file is not pruned; and what a module at full depth requires.
pub data IsDeep (run : Run) : ModuleVersion → Type 0 where
  from_main : {x : ModuleVersion} → is_pruned_by run.main.go ≡ false → IsTop run x → IsDeep run x
  from_top : {x y : ModuleVersion} (file : Dependency) → IsTop run x → Says run x (Ok file)
      → is_pruned_by file.go ≡ false → Contains (without_excluded run.main file.requirements) y → IsDeep run y
  from_deep : {x y : ModuleVersion} → IsDeep run x → Requires run x y → IsDeep run y

abbrev pub IsOpened : Run → ModuleVersion → Type 0
IsOpened run x = IsTop run x ⊎ IsDeep run x

-- These are opened modules, each once.
pub record AreOpened (run : Run) (xs : List ModuleVersion) : Type 0 where
  pub once : IsDistinct pair_eq xs
  pub each : (x : ModuleVersion) → Contains xs x → IsOpened run x

-- More than 65,536 module versions are opened.
abbrev pub AreTooMany : Run → Type 0
AreTooMany run = (xs : List ModuleVersion) × (65536 < length xs) × AreOpened run xs

-- ---- what is found

-- An edge leads from the main module, or from an opened module, to each of its requirements.
abbrev pub IsEdge : Run → Step → ModuleVersion → Type 0
IsEdge run FromMain y = IsTop run y
IsEdge run (Of x) y = IsOpened run x × Requires run x y

-- An edge leads to the module.
abbrev pub IsVertex : Run → ModuleVersion → Type 0
IsVertex run y = IsEdgeEnd (IsEdge run) y

-- An opened module, and what is wrong with its file.
abbrev pub IsFault : Run → Fault → Type 0
IsFault run one = IsOpened run one.vertex × Says run one.vertex (Err one.class)

-- Each fault, in strictly ascending order of modules.
pub record AreFaults (run : Run) (faults : List Fault) : Type 0 where
  pub ascending : AllPairs (λ (a b : Fault). pair_cmp a.vertex b.vertex ≡ Less) faults
  pub each : (one : Fault) → Contains faults one ↔ IsFault run one

-- Each edge, in strictly ascending order.
pub record AreEdges (run : Run) (edges : List Edge) : Type 0 where
  pub ascending : IsAscending edge_cmp edges
  pub each : (one : Edge) → Contains edges one ↔ IsEdge run one.from one.to

-- The build list: the main module, followed by each other path that an edge leads to, once, in path order, at
-- the greatest version.
abbrev pub AreRows : Run → List Entry → Type 0
AreRows run rows = IsBuildList run.main.path (replacement_in run.main) (IsEdge run) rows

-- The requirements of the module are read at this depth. Every deep module is read at full depth. A module at the top
-- is read at the top only if the main file is pruned, since it is a deep one otherwise.
abbrev pub TakesTurn : Run → ModuleVersion → Depth → Type 0
TakesTurn run x Top = (is_pruned_by run.main.go ≡ true) × IsTop run x
TakesTurn run x Deep = IsDeep run x

-- Each module and depth at which requirements are read, once.
pub record AreTurns (run : Run) (turns : List Turn) : Type 0 where
  pub once : IsDistinct same_turn turns
  pub each : (x : ModuleVersion) (d : Depth) → Contains turns (turn x d) ↔ TakesTurn run x d

-- ---- what is asked

-- The name is that of the file of an opened module, and may be asked for.
abbrev pub IsNeeded : Run → Name → Type 0
IsNeeded run name = (x : ModuleVersion) × IsOpened run x × (file_of run.main x ≡ name) × (is_askable name ≡ true)

-- Each answer says something, which is a file's contents or a fault.
abbrev pub IsRead : Run → Type 0
IsRead run = (name : Name) (reply : Reply) → run.answers name ≡ Some reply
    → (said : Result Dependency Class) × IsFileReading run.sums name reply said

-- Each answer says something, and by these answers the name is needed.
pub record CallsFor (run : Run) (name : Name) : Type 0 where
  pub read : IsRead run
  pub needed : IsNeeded run name

-- By these answers the name is needed, and it is not among them.
pub record IsDue (run : Run) (name : Name) : Type 0 where
  pub calls : CallsFor run name
  pub unasked : run.answers name ≡ None

-- The names that answers call for, if this is the main file and this the go.sum.
abbrev pub LoadingNeeds : Main → Option Sums → (Name → Option Reply) → Name → Type 0
LoadingNeeds main sums answers name = CallsFor (record { main = main; sums = sums; answers = answers }) name

-- Each name was needed by the answers before it, and was not among them.
pub data AskedInTurn (needs : (Name → Option Reply) → Name → Type 0) : List (Name × Reply) → Type 0 where
  nothing : AskedInTurn needs []
  more : {pairs : List (Name × Reply)} {name : Name} (reply : Reply) → AskedInTurn needs pairs
      → needs (answer_in pairs) name → answer_in pairs name ≡ None → AskedInTurn needs (pairs ++ (name, reply) ∷ [])

-- Exactly the needed files were asked for, each once, and at most 65,536 module versions are opened.
pub record IsSettled (run : Run) (asked : List Name) : Type 0 where
  pub read : IsRead run
  pub once : IsDistinct same_name asked
  pub needed : (name : Name) → Contains asked name ↔ IsNeeded run name
  pub few : (xs : List ModuleVersion) → AreOpened run xs → length xs ≤ 65536
