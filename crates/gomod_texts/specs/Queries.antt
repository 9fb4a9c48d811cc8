-- The ends of `graph`, `list` and `chain`, given the bytes of a main module's file, those of a go.sum and
-- the answers of a store: Go Modules Reference, "Minimal version selection", "go.mod files", "go.sum files".
use Rattle.std.specs.Prelude.{◌≡◌, ◌<◌, ◌≤◌, ◌⊎◌, ℕ, List, [], ◌∷◌, length, Option, Some, None, ⊤}
use Rattle.gm_file.specs.Directives.{Strict}
use Rattle.gm_store_parts.specs.Asked.{Name, Reply, names_in}
use Rattle.gm_store_sums.specs.Sums.{HasValidLines, IsFirstInvalid, ReadsAs, Sums}
use Rattle.gm_file.specs.Main.{IsMainFile, Main}
use Rattle.gm_file.specs.Misreading.{IsMisread}
use Rattle.gm_graph_select.specs.BuildList.{HasEntryFor}
use Rattle.gm_graph.specs.Entries.{Entry}
use Rattle.gm_graph.specs.declared.fault.Fault.{Fault}
use Rattle.gm_graph.specs.Run.{AreFaults, AreTooMany, IsDue, IsRead, IsSettled}
use Rattle.gm_graph_cache.specs.Sayings.{Run, run_of}
use Rattle.gomod_texts.specs.Outcome.{Outcome, failure_outcome, refusal_outcome}
use Rattle.gomod_texts.specs.Reports.{FaultPlace, bad_sum_line, device_line, faults_text, long_sums_line, main_line, not_listed_line, too_many_line}

-- What a store answered: the names that it was asked for with its answers, and the names on which its device
-- failed.
pub record Answers : Type 0 where
  pub asked : List (Name × Reply)
  pub failed : List Name

-- the record of these two lists
abbrev pub answers_of : List (Name × Reply) → List Name → Answers
answers_of asked failed = record { asked = asked; failed = failed }

-- What a run depends on: the bytes of the main module's file, those of the go.sum if one is given, and what
-- the store answered.
pub record Given : Type 0 where
  pub file : List ℕ
  pub sums : Option (List ℕ)
  pub answers : Answers

-- the record of these three
abbrev pub given_of : List ℕ → Option (List ℕ) → Answers → Given
given_of file sums answers = record { file = file; sums = sums; answers = answers }

-- ---- the main module's file and the go.sum

-- the longest file and the longest list that is read, in bytes
abbrev pub longest : ℕ
longest = 16777216

-- The go.sum is valid, and the table is what it says; or no go.sum is given, and there is no table.
abbrev pub AreSums : Option (List ℕ) → Option Sums → Type 0
AreSums None None = ⊤
AreSums None (Some table) = ⊥
AreSums (Some text) None = ⊥
AreSums (Some text) (Some table) = (length text ≤ longest) × HasValidLines text × ReadsAs table text

-- the go.sum is invalid, and this is what is reported of it
abbrev pub AreInvalidSums : Option (List ℕ) → List ℕ → Type 0
AreInvalidSums None report = ⊥
AreInvalidSums (Some text) report =
    ((longest < length text) × (report ≡ long_sums_line))
    ⊎ ((length text ≤ longest) × (number : ℕ) × IsFirstInvalid text number × (report ≡ bad_sum_line number))

-- both files are valid, and this is what they say
pub record FilesReadAs (file : List ℕ) (sums_text : Option (List ℕ)) (main : Main)
    (table : Option Sums) : Type 0 where
  pub main_file : IsMainFile file main
  pub sums : AreSums sums_text table

-- ---- a run

-- the store was asked for nothing, and its device did not fail
abbrev pub IsUnasked : Answers → Type 0
IsUnasked answers = (answers.asked ≡ []) × (answers.failed ≡ [])

-- Both files are valid, and exactly the needed files of modules were asked for, each once. At most 65,536 module
-- versions are opened, these are the faults, and the device did not fail.
pub record AreFound (run : Given) (main : Main) (table : Option Sums) (faults : List Fault) : Type 0 where
  pub read : FilesReadAs run.file run.sums main table
  pub settled : IsSettled (run_of main table run.answers.asked) (names_in run.answers.asked)
  pub faults_are : AreFaults (run_of main table run.answers.asked) faults
  pub none_failed : run.answers.failed ≡ []

-- What a command prints: a relation between what the files say and the outcome.
abbrev pub Prints : Type 1
Prints = Run → Outcome → Type 0

-- How `graph`, `list` and `chain` end, if memory doesn't run out. They differ in what they print of a module graph
-- without faults.
pub data QueryEnds (prints : Prints) (run : Given) (outcome : Outcome) : Type 0 where
  -- the main file is invalid, which is reported, and no file is asked for
  bad_main : (place : FaultPlace) → IsMisread Strict run.file place.0 place.1 → IsUnasked run.answers
      → outcome ≡ refusal_outcome (main_line place) → QueryEnds prints run outcome
  -- the main file is valid and the go.sum is not, likewise
  bad_sums : (main : Main) (report : List ℕ) → IsMainFile run.file main → AreInvalidSums run.sums report
      → IsUnasked run.answers → outcome ≡ refusal_outcome report → QueryEnds prints run outcome
  -- the store's device failed on the file of an opened module
  device : (main : Main) (table : Option Sums) (name : Name) → FilesReadAs run.file run.sums main table
      → IsDue (run_of main table run.answers.asked) name → run.answers.failed ≡ name ∷ []
      → outcome ≡ failure_outcome (device_line name) → QueryEnds prints run outcome
  -- more than 65,536 module versions are opened
  too_many : (main : Main) (table : Option Sums) → FilesReadAs run.file run.sums main table
      → IsRead (run_of main table run.answers.asked) → AreTooMany (run_of main table run.answers.asked)
      → run.answers.failed ≡ [] → outcome ≡ refusal_outcome too_many_line → QueryEnds prints run outcome
  -- some of the opened modules have faults: these are reported, and no others
  faulty : (main : Main) (table : Option Sums) (first : Fault) (others : List Fault)
      → AreFound run main table (first ∷ others)
      → outcome ≡ refusal_outcome (faults_text (first ∷ others)) → QueryEnds prints run outcome
  -- no opened module has a fault, and the command prints
  no_fault : (main : Main) (table : Option Sums) → AreFound run main table []
      → prints (run_of main table run.answers.asked) outcome → QueryEnds prints run outcome

-- the path is not in the build list, and this is reported
abbrev pub IsUnlisted : Main → List Entry → List ℕ → Outcome → Type 0
IsUnlisted main rows path outcome =
    ¬ (HasEntryFor main.path rows path) × (outcome ≡ refusal_outcome (not_listed_line path))
