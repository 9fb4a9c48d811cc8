-- Laws of module graphs, over their definitions alone.
use Rattle.std.specs.Prelude.{◌≡◌, ◌≢◌, ◌↔◌, ◌++◌, false, List, Option, Result, Contains}
use Rattle.std.specs.Ordering.{is_gt}
use Rattle.gm_version.specs.Version.{version_cmp}
use Rattle.gm_name.specs.ModuleVersion.{ModuleVersion}
use Rattle.gm_file.specs.Directives.{Right}
use Rattle.gm_file.specs.Fields.{Dependency}
use Rattle.gm_store_parts.specs.Asked.{Name, Reply}
use Rattle.gm_store_sums.specs.Sums.{Sums}
use Rattle.gm_graph_files.specs.declared.class.Class.{Class}
use Rattle.gm_file.specs.Main.{Main, is_pruned_by}
use Rattle.gm_graph_files.specs.Reading.{IsFileReading}
use Rattle.gm_graph_select.specs.declared.step.Step.{Step}
use Rattle.gm_graph_select.specs.declared.step.Step.TheVariants.{Of}
use Rattle.gm_graph.specs.Run.{IsEdge, IsOpened, IsRead, IsTop, IsVertex}
use Rattle.gm_graph_cache.specs.Sayings.{KeepsSayings, Requires, Run, Says, run_of}
use Rattle.gm_graph.specs.Outcome.{IsLoaded, LoadedGraph}

-- ---- what replies say

-- A reply to a name has one meaning.
abbrev pub RepliesSayOneThing : Type 0
RepliesSayOneThing = (sums : Option Sums) (name : Name) (reply : Reply) (a b : Result Dependency Class)
    → IsFileReading sums name reply a → IsFileReading sums name reply b → a ≡ b

-- The file of a module says one thing.
abbrev pub ModulesSayOneThing : Type 0
ModulesSayOneThing = (run : Run) (x : ModuleVersion) (a b : Result Dependency Class)
    → Says run x a → Says run x b → a ≡ b

-- Whatever a module's file says, it still says when more was asked for.
abbrev pub EarlierSayingsStay : Type 0
EarlierSayingsStay = (main : Main) (sums : Option Sums) (pairs more : List (Name × Reply))
    → KeepsSayings (run_of main sums pairs) (run_of main sums (pairs ++ more))

-- If all answers say something, so do the first of them.
abbrev pub FirstAnswersSaySomething : Type 0
FirstAnswersSaySomething = (main : Main) (sums : Option Sums) (pairs more : List (Name × Reply))
    → IsRead (run_of main sums (pairs ++ more)) → IsRead (run_of main sums pairs)

-- ---- what is loaded

-- reached by requirements alone, starting from those of the main file
pub data IsTransitivelyRequired (run : Run) : ModuleVersion → Type 0 where
  required : {x : ModuleVersion} → IsTop run x → IsTransitivelyRequired run x
  further : {x y : ModuleVersion} → IsTransitivelyRequired run x → Requires run x y → IsTransitivelyRequired run y

-- The version of each row is required by the main module or by an opened module.
abbrev pub RowsAreRequired : Type 0
RowsAreRequired = (run : Run) (asked : List Name) (loaded : LoadedGraph) → IsLoaded run asked loaded
    → (x : ModuleVersion) (right : Option Right) → Contains loaded.rows (Of x, right) → IsVertex run x

-- Each requirement of the main module or of an opened module, except for those on the main module's path, has a row
-- of its path, whose version is not below the required one.
abbrev pub RowsSatisfyRequirements : Type 0
RowsSatisfyRequirements = (run : Run) (asked : List Name) (loaded : LoadedGraph) → IsLoaded run asked loaded
    → (from : Step) (y : ModuleVersion) → IsEdge run from y → y.0 ≢ run.main.path
    → (x : ModuleVersion) × (right : Option Right) × Contains loaded.rows (Of x, right) × (x.0 ≡ y.0)
    × (is_gt (version_cmp y.1 x.1) ≡ false)

-- If the main file is unpruned, the opened modules, and the modules that edges lead to, are those that
-- requirements reach.
abbrev pub UnprunedIsPlain : Type 0
UnprunedIsPlain = (run : Run) → is_pruned_by run.main.go ≡ false → (x : ModuleVersion)
    → (IsOpened run x ↔ IsTransitivelyRequired run x) × (IsVertex run x ↔ IsTransitivelyRequired run x)

-- The main file, the go.sum and the store's answers determine the list of faults, the list of edges and the build list.
abbrev pub OneAnswer : Type 0
OneAnswer = (run : Run) (asked : List Name) (a b : LoadedGraph) → IsLoaded run asked a → IsLoaded run asked b
    → (a.faults ≡ b.faults) × (a.edges ≡ b.edges) × (a.rows ≡ b.rows)
