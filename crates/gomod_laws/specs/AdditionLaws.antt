-- A requirement added lowers nothing: Go Modules Reference, "Minimal version selection" and "Module graph pruning".
use Rattle.std.specs.Prelude.{◌≡◌, ℕ, false, List, Option, None, Contains}
use Rattle.std.specs.Ordering.{is_gt}
use Rattle.gm_version.specs.Version.{version_cmp}
use Rattle.gm_name.specs.ModuleVersion.{ModuleVersion}
use Rattle.gm_file.specs.Directives.{Right}
use Rattle.gm_store_parts.specs.Asked.{Name, Reply}
use Rattle.gm_file.specs.Main.{Main, is_pruned_by, replacement_in, IsMainFile}
use Rattle.gm_graph_select.specs.declared.step.Edge.{Edge}
use Rattle.gm_graph_select.specs.declared.step.Step.TheVariants.{Of}
use Rattle.gm_graph.specs.Entries.{Entry}
use Rattle.gomod_texts.specs.QueryLaws.{AnswerAlike}
use Rattle.gomod_texts.specs.Queries.{Given}
use Rattle.gomod_texts.specs.Outcome.{Outcome}
use Rattle.gomod_words.specs.declared.usage.Command.{Command}
use Rattle.gomod_words.specs.declared.usage.Command.TheVariants.{Graph, List as Rows}
use Rattle.gomod_laws.specs.Runs.{HasOutcome, HasPrinted}
use Rattle.gomod_laws.specs.Shown.{ShowsEdges, ShowsRows, run_over}

-- ---- two runs

-- The command has one outcome over a main file and another over a second one: with the same go.sum or none, and
-- with a store that answers no file differently. This is what the two main files say.
pub record AreTwoRuns (command : Command) (file other : List ℕ) (sums : Option (List ℕ)) (first second : Main)
    (one next : Outcome) : Type 0 where
  pub asked : List (Name × Reply)
  pub later : List (Name × Reply)
  pub alike : AnswerAlike asked later
  pub first_says : IsMainFile file first
  pub second_says : IsMainFile other second
  pub first_runs : HasOutcome command file sums asked one
  pub second_runs : HasOutcome command other sums later next

-- ---- the law

-- The second main file says what the first says, and may require more, exclude less, and have a go version below
-- 1.17 where that of the first is not.
pub record SaysMore (first second : Main) : Type 0 where
  pub path : first.path ≡ second.path
  pub replaces : (x : ModuleVersion) → replacement_in first x ≡ replacement_in second x
  pub requires : (x : ModuleVersion) → Contains first.requirements x → Contains second.requirements x
  pub excludes : (x : ModuleVersion) → Contains second.excludes x → Contains first.excludes x
  pub unpruned : is_pruned_by first.go ≡ false → is_pruned_by second.go ≡ false

-- For each row of the first there is a row of its path in the second, at a version that is not below.
abbrev pub AreNotLower : List Entry → List Entry → Type 0
AreNotLower rows others = (x : ModuleVersion) (right : Option Right) → Contains rows (Of x, right)
    → (y : ModuleVersion) × (its : Option Right) × Contains others (Of y, its) × (y.0 ≡ x.0)
    × (is_gt (version_cmp x.1 y.1) ≡ false)

-- `list` shows these rows of the one run, and none of them is lower in what it shows of the next.
abbrev pub LowersNothing : Given → Given → Main → Main → Outcome → Outcome → Type 0
LowersNothing run later first second one next = (rows : List Entry) × (others : List Entry)
    × ShowsRows run first None None rows one × ShowsRows later second None None others next × AreNotLower rows others

-- If `list` prints over a main file that says more, it prints over the other, and lowers no row of it.
abbrev pub ListLowersNothing : Type 0
ListLowersNothing = (file more : List ℕ) (sums : Option (List ℕ)) (first second : Main) (one next : Outcome)
    (runs : AreTwoRuns (Rows None None) file more sums first second one next) → SaysMore first second → HasPrinted next
    → LowersNothing (run_over file sums runs.asked) (run_over more sums runs.later) first second one next

-- `graph` shows these edges of the one run, and each of them in what it shows of the next.
abbrev pub KeepsLines : Given → Given → Main → Main → Outcome → Outcome → Type 0
KeepsLines run later first second one next = (edges : List Edge) × (others : List Edge)
    × ShowsEdges run first edges one × ShowsEdges later second others next
    × ((e : Edge) → Contains edges e → Contains others e)

-- If `graph` prints over a main file that says more, it prints over the other, and each line of that is one of it.
abbrev pub GraphKeepsLines : Type 0
GraphKeepsLines = (file more : List ℕ) (sums : Option (List ℕ)) (first second : Main) (one next : Outcome)
    (runs : AreTwoRuns Graph file more sums first second one next) → SaysMore first second → HasPrinted next
    → KeepsLines (run_over file sums runs.asked) (run_over more sums runs.later) first second one next
