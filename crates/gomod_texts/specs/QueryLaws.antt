-- Laws about the outcomes of `graph`, `list` and `chain`, which follow from the definitions alone. A law that
-- names no section of the Go Modules Reference is about a choice of this program: that the list can be printed in
-- pages, and which chain is printed.
use Rattle.std.specs.Prelude.{◌≡◌, ◌≢◌, ◌<◌, ◌≤◌, ℕ, false, List, [], ◌∷◌, ◌++◌, length, map, Option, Some, None, Contains}
use Rattle.std.specs.List.{flat_map}
use Rattle.std.specs.Ordering.{is_gt}
use Rattle.gm_version.specs.Version.{version_cmp}
use Rattle.gm_name.specs.ModuleVersion.{ModuleVersion}
use Rattle.gm_store_parts.specs.Asked.{Name, Reply, answer_in}
use Rattle.gm_store_sums.specs.Sums.{Sums}
use Rattle.gm_file.specs.Main.{Main, replacement_in}
use Rattle.gm_graph_select.specs.declared.step.Step.{Step}
use Rattle.gm_graph_select.specs.declared.step.Step.TheVariants.{Main as FromMain, Of}
use Rattle.gm_graph_select.specs.BuildList.{IsEntryOf, entry_of, main_entry, path_cmp, path_of}
use Rattle.gm_graph.specs.Entries.{Entry}
use Rattle.gm_graph_select.specs.Graph.{Edges}
use Rattle.gm_graph_select.specs.Laws.{entries_of_pages}
use Rattle.gm_graph_select.specs.Order.{IsAscending}
use Rattle.gm_graph.specs.Run.{AreRows, IsEdge, IsVertex}
use Rattle.gm_graph_cache.specs.Sayings.{Run, run_of}
use Rattle.gomod_texts.specs.declared.reports.status.Status.TheVariants.{Done}
use Rattle.gomod_texts.specs.ChainQuery.{chain_text, ChainEnds}
use Rattle.gomod_texts.specs.ListQuery.{list_text, ListEnds}
use Rattle.gomod_texts.specs.Queries.{AreFound, Given}
use Rattle.gomod_texts.specs.Outcome.{Outcome, code_of, text_outcome}

-- ---- runs that are alike

-- no name got different answers
abbrev pub AnswerAlike : List (Name × Reply) → List (Name × Reply) → Type 0
AnswerAlike one other = (name : Name) (a b : Reply)
    → answer_in one name ≡ Some a → answer_in other name ≡ Some b → a ≡ b

-- The main file and the go.sum are the same, no file of a module got different answers, and the devices
-- failed on the same files, or on none.
pub record AreAlike (one other : Given) : Type 0 where
  pub file : one.file ≡ other.file
  pub sums : one.sums ≡ other.sums
  pub answers : AnswerAlike one.answers.asked other.answers.asked
  pub failed : one.answers.failed ≡ other.answers.failed

-- ---- `list` is the build list by minimal version selection (Go Modules Reference, "Minimal version selection")

-- The modules other than the main module: for each path except the main module's, the greatest version that
-- is required.
pub record AreGreatest (run : Run) (selected : List ModuleVersion) : Type 0 where
  -- in the order of path bytes, each path once
  pub ascending : IsAscending path_cmp selected
  pub not_main : (x : ModuleVersion) → Contains selected x → x.0 ≢ run.main.path
  -- each is required by the main module or by an opened module
  pub required : (x : ModuleVersion) → Contains selected x → IsVertex run x
  -- whatever these require, except at the main module's path, has an entry whose version is not lower
  pub satisfied : (y : ModuleVersion) → IsVertex run y → y.0 ≢ run.main.path
      → (x : ModuleVersion) × Contains selected x × (x.0 ≡ y.0) × (is_gt (version_cmp y.1 x.1) ≡ false)

-- Exactly the needed files of modules were asked for, and none has a fault. The main module is printed, followed by
-- those modules, each with its replacement, if any.
abbrev pub ShowsBuildList : Given → Outcome → Type 0
ShowsBuildList run outcome =
    (main : Main) × (table : Option Sums) × (selected : List ModuleVersion) × AreFound run main table []
    × AreGreatest (run_of main table run.answers.asked) selected
    × (outcome ≡ text_outcome (list_text main.path (main_entry ∷ map (entry_of (replacement_in main)) selected)))

-- this holds when `list` prints
abbrev pub ListIsBuildList : Type 0
ListIsBuildList = (run : Given) (outcome : Outcome) → ListEnds None None run outcome
    → outcome.status ≡ code_of Done → ShowsBuildList run outcome

-- Conversely, `list` prints any modules that meet this description.
abbrev pub BuildListIsListed : Type 0
BuildListIsListed = (run : Given) (main : Main) (table : Option Sums) (selected : List ModuleVersion)
    → AreFound run main table [] → AreGreatest (run_of main table run.answers.asked) selected
    → ListEnds None None run
    (text_outcome (list_text main.path (main_entry ∷ map (entry_of (replacement_in main)) selected)))

-- ---- pages

-- The pages of n rows: `list` prints the first from the beginning, and each further one after the last row of
-- the page before it. After the last page it prints nothing.
pub data ArePrintedPages (run : Given) (main : List ℕ) (n : ℕ) : Option (List ℕ) → List (List Entry) → Type 0 where
  no_row : {after : Option (List ℕ)} → ListEnds after (Some n) run (text_outcome [])
      → ArePrintedPages run main n after []
  one_page : {after : Option (List ℕ)} {pages : List (List Entry)} (front : List Entry) (last : Entry)
      → ListEnds after (Some n) run (text_outcome (list_text main (front ++ last ∷ [])))
      → ArePrintedPages run main n (Some (path_of main last.0)) pages
      → ArePrintedPages run main n after ((front ++ last ∷ []) ∷ pages)

-- The pages concatenate to the build list, and their texts to what is printed.
abbrev pub JoinsPages : ℕ → Given → Outcome → Type 0
JoinsPages n run whole =
    (main : Main) × (table : Option Sums) × (pages : List (List Entry)) × AreFound run main table []
    × AreRows (run_of main table run.answers.asked) (entries_of_pages pages)
    × ArePrintedPages run main.path n None pages
    × (whole.text ≡ flat_map (list_text main.path) pages)

-- this holds of what `list` prints without a limit
abbrev pub PrintedPagesJoin : Type 0
PrintedPagesJoin = (run : Given) (n : ℕ) (whole : Outcome) → 0 < n → ListEnds None None run whole
    → whole.status ≡ code_of Done → JoinsPages n run whole

-- ---- `chain` prints a shortest walk in the module graph (Go Modules Reference, "Minimal version selection")

-- the main module, followed by steps that each have an edge from the step before
pub data IsWalk (edges : Edges) : Step → List Step → Type 0 where
  here : IsWalk edges FromMain (FromMain ∷ [])
  further : {s : Step} {y : ModuleVersion} {steps : List Step} → IsWalk edges s steps → edges s y
      → IsWalk edges (Of y) (steps ++ Of y ∷ [])

-- The steps are printed. They are a walk to the build list's entry for the path, and no walk to it is shorter.
abbrev pub ShowsShortestWalk : List ℕ → Given → Outcome → Type 0
ShowsShortestWalk path run outcome =
    (main : Main) × (table : Option Sums) × (rows : List Entry) × (s : Step) × (steps : List Step)
    × AreFound run main table [] × AreRows (run_of main table run.answers.asked) rows × IsEntryOf main.path rows path s
    × (outcome ≡ text_outcome (chain_text main.path steps))
    × IsWalk (IsEdge (run_of main table run.answers.asked)) s steps
    × ((others : List Step) → IsWalk (IsEdge (run_of main table run.answers.asked)) s others
    → length steps ≤ length others)

-- this holds when `chain` prints
abbrev pub PrintedChainIsShortest : Type 0
PrintedChainIsShortest = (path : List ℕ) (run : Given) (outcome : Outcome) → ChainEnds path run outcome
    → outcome.status ≡ code_of Done → ShowsShortestWalk path run outcome
