-- Small files, and runs over them, on which the definitions of an outcome are tried.
use Rattle.std.specs.Prelude.{◌≡◌, ℕ, List, [], ◌∷◌, Option, Some, None, Ok, codes}
use Rattle.std.specs.declared.cmp.Ordering.TheVariants.{Greater, Less}
use Rattle.gm_name.specs.ModuleVersion.{ModuleVersion}
use Rattle.gm_version.specs.Version.{version_cmp}
use Rattle.gm_store_parts.specs.Asked.{Name, Reply, mod_file, absent, bytes}
use Rattle.gm_file.specs.Fields.{Dependency}
use Rattle.gm_file.specs.Main.{Main, IsMainFile}
use Rattle.gm_graph_files.specs.Reading.{IsFileReading}
use Rattle.gm_graph.specs.Run.{AreEdges, IsEdge}
use Rattle.gm_graph_cache.specs.Sayings.{Requires, Run, run_of}
use Rattle.gm_graph_select.specs.declared.step.Edge.{Edge}
use Rattle.gm_graph_select.specs.declared.step.Step.TheVariants.{Main as FromMain, Of}
use Rattle.gm_graph_select.specs.Graph.{edge, edge_cmp}
use Rattle.gomod_texts.specs.Queries.{Given, answers_of, given_of}
use Rattle.gomod_texts.specs.ListQuery.{ListEnds}
use Rattle.gomod_texts.specs.Outcome.{Outcome, failure_outcome, text_outcome, refusal_outcome}

-- ---- files

abbrev pub top_one : ModuleVersion
top_one = (codes "top.org", codes "v1.0.0")

abbrev pub mid_ten : ModuleVersion
mid_ten = (codes "mid.org", codes "v1.10.0")

abbrev pub low_one : ModuleVersion
low_one = (codes "low.org", codes "v1.0.0")

abbrev pub low_two : ModuleVersion
low_two = (codes "low.org", codes "v1.1.0")

abbrev pub top_name : Name
top_name = mod_file (codes "top.org") (codes "v1.0.0")

abbrev pub low_name : Name
low_name = mod_file (codes "low.org") (codes "v1.0.0")

-- two main files, and what they say
abbrev pub alone : List ℕ
alone = codes "module m\n"

abbrev pub requiring : List ℕ
requiring = codes "module m\nrequire top.org v1.0.0\n"

-- a main module m without a go version that requires these modules
abbrev pub main_requiring : List ModuleVersion → Main
main_requiring requirements =
    record { path = codes "m"; go = (1, 16); requirements = requirements; excludes = []; replaces = [] }

-- a file with these contents
abbrev pub saying : Option (List ℕ) → ℕ × ℕ → List ModuleVersion → Dependency
saying declared go requirements = record { declared = declared; go = go; requirements = requirements }

-- the file of top.org
abbrev pub top_text : List ℕ
top_text = codes "module top.org\ngo 1.16\nrequire mid.org v1.10.0\nrequire low.org v1.1.0\n"

abbrev pub top_file : Dependency
top_file = saying (Some (codes "top.org")) (1, 16) (mid_ten ∷ low_two ∷ [])

-- a file that declares no path, and requires nothing
abbrev pub folder_text : List ℕ
folder_text = codes "go 1.17\n"

abbrev pub folder_says : Dependency
folder_says = saying None (1, 17) []

-- The bytes say what they are read as.
pub record FilesAreRead : Type 0 where
  pub one : IsMainFile alone (main_requiring [])
  pub two : IsMainFile requiring (main_requiring (top_one ∷ []))
  -- as a module's file too: an answer's bytes have a reading, before its path is compared
  pub answered : IsFileReading None top_name (bytes requiring) (Ok (saying (Some (codes "m")) (1, 16) (top_one ∷ [])))
  pub required : IsFileReading None top_name (bytes top_text) (Ok top_file)
  pub undeclared : IsFileReading None top_name (bytes folder_text) (Ok folder_says)

-- As a version v1.10.0 is above v1.9.0, as a text below it.
abbrev pub NumbersOrderVersions : Type 0
NumbersOrderVersions = version_cmp (codes "v1.10.0") (codes "v1.9.0") ≡ Greater

-- ---- edges

-- a run with the file of top.org over a main file that requires these modules, and excludes low.org at v1.1.0
abbrev pub with_top : List ModuleVersion → Run
with_top requirements =
    run_of
    (record { path = codes "m"; go = (1, 16); requirements = requirements; excludes = low_two ∷ []; replaces = [] })
    None ((top_name, bytes top_text) ∷ [])

-- the edges of the main module first, in the order of paths
abbrev pub edges : List Edge
edges = edge FromMain low_one ∷ edge FromMain top_one ∷ edge (Of top_one) mid_ten ∷ []

-- None leads to the excluded version, and none leaves a module that isn't opened, though its file requires one.
pub record ThreeEdgesLead : Type 0 where
  pub are : AreEdges (with_top (top_one ∷ low_one ∷ [])) edges
  -- the module that an edge leaves counts before the one that it leads to
  pub by_source : edge_cmp (edge (Of low_one) top_one) (edge (Of top_one) low_one) ≡ Less
  pub idle_requires : Requires (with_top []) top_one mid_ten
  pub not_unopened : ¬ (IsEdge (with_top []) (Of top_one) mid_ten)

-- ---- ends

-- a run over these bytes without a go.sum
abbrev pub run_without_sums : List ℕ → List (Name × Reply) → List Name → Given
run_without_sums file asked refusals = given_of file None (answers_of asked refusals)

-- A module that requires nothing is listed alone, and nothing else is an outcome.
pub record IsListedAlone : Type 0 where
  pub listed : ListEnds None None (run_without_sums alone [] []) (text_outcome (codes "m\n"))
  pub only : (outcome : Outcome) → ListEnds None None (run_without_sums alone [] []) outcome
      → outcome ≡ text_outcome (codes "m\n")

-- The empty file declares no module.
abbrev pub EmptyIsRefused : Type 0
EmptyIsRefused = ListEnds None None (run_without_sums [] [] []) (refusal_outcome (codes "go.mod:0: NoModule\n"))

-- a run over `alone` and a go.sum with a line of two fields
abbrev pub run_with_bad_sum : Given
run_with_bad_sum = given_of alone (Some (codes "a b\n")) (answers_of [] [])

-- The line is reported, and nothing else is an outcome: a bad go.sum is refused, though no file needs it.
pub record BadSumIsRefused : Type 0 where
  pub reported : ListEnds None None run_with_bad_sum (refusal_outcome (codes "go.sum:1: BadSum\n"))
  pub only : (outcome : Outcome) → ListEnds None None run_with_bad_sum outcome
      → outcome ≡ refusal_outcome (codes "go.sum:1: BadSum\n")

-- given these answers, `list` on the two lines has no outcome
abbrev pub HasNoOutcome : List (Name × Reply) → List Name → Type 0
HasNoOutcome asked refusals =
    (outcome : Outcome) → ¬ (ListEnds None None (run_without_sums requiring asked refusals) outcome)

-- If the required file is missing, that is reported; if the device failed on it, that is. If it was not asked for,
-- there is no outcome.
pub record RequiredIsAsked : Type 0 where
  pub missing : ListEnds None None (run_without_sums requiring ((top_name, absent) ∷ []) [])
      (refusal_outcome (codes "top.org@v1.0.0: Missing\n"))
  pub device : ListEnds None None (run_without_sums requiring [] (top_name ∷ []))
      (failure_outcome (codes "gomod: device at top.org@v1.0.0\n"))
  pub unasked : HasNoOutcome [] []
  -- nor if the device failed on a file that no opened module has, or on one that was answered: `IsDue` asks for both
  pub undue : HasNoOutcome [] (low_name ∷ [])
  pub answered : HasNoOutcome ((top_name, absent) ∷ []) (top_name ∷ [])
  -- nor if another file was asked for as well, or the same one twice: `IsSettled` allows neither
  pub no_more : HasNoOutcome ((top_name, absent) ∷ (low_name, absent) ∷ []) []
  pub not_twice : HasNoOutcome ((top_name, absent) ∷ (top_name, absent) ∷ []) []
