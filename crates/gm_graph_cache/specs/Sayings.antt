-- What a store's answers mean for a main module's file: what a file says, and what the file of a module says (Go
-- Modules Reference, "go.mod files").
use Rattle.std.specs.Prelude.{◌≡◌, true, false, List, Contains, Option, Some, Result, Ok, Err}
use Rattle.gm_name.specs.ModuleVersion.{ModuleVersion}
use Rattle.gm_file.specs.Fields.{Dependency}
use Rattle.gm_store_parts.specs.Asked.{Name, Reply, answer_in}
use Rattle.gm_store_sums.specs.Sums.{Sums}
use Rattle.gm_graph_files.specs.declared.class.Class.{Class}
use Rattle.gm_graph_files.specs.declared.class.Class.TheVariants.{NotFetchable, WrongPath}
use Rattle.gm_file.specs.Main.{Main, replacement_in, without_excluded}
use Rattle.gm_graph_files.specs.Reading.{IsFileReading, file_of, is_askable, is_right_path}

-- A run: what the main file says, what the go.sum says if there is one, and the answer to each name that the store was
-- asked for.
pub record Run : Type 0 where
  pub main : Main
  pub sums : Option Sums
  pub answers : Name → Option Reply

abbrev pub run_of : Main → Option Sums → List (Name × Reply) → Run
run_of main sums asked = record { main = main; sums = sums; answers = answer_in asked }

-- ---- what files say

-- What the file of a name says, or what is wrong with it. A file that is not answered says nothing.
pub data FileSays (run : Run) (name : Name) : Result Dependency Class → Type 0 where
  unaskable : is_askable name ≡ false → FileSays run name (Err NotFetchable)
  answered : (reply : Reply) {said : Result Dependency Class} → is_askable name ≡ true
      → run.answers name ≡ Some reply → IsFileReading run.sums name reply said → FileSays run name said

-- What the file of a module says, or its fault: that of the file, or that the file declares another path.
pub data Says (run : Run) (x : ModuleVersion) : Result Dependency Class → Type 0 where
  faulty : {class : Class} → FileSays run (file_of run.main x) (Err class) → Says run x (Err class)
  wrong_path : (file : Dependency) → FileSays run (file_of run.main x) (Ok file)
      → is_right_path x (replacement_in run.main x) file.declared ≡ false → Says run x (Err WrongPath)
  sound : {file : Dependency} → FileSays run (file_of run.main x) (Ok file)
      → is_right_path x (replacement_in run.main x) file.declared ≡ true → Says run x (Ok file)

-- The module's file requires the other module, which the main file does not exclude.
abbrev pub Requires : Run → ModuleVersion → ModuleVersion → Type 0
Requires run x y = (file : Dependency) × Says run x (Ok file) × Contains (without_excluded run.main file.requirements) y

-- ---- what stays

-- Whatever a module's file says by the first run, it says by the second.
abbrev pub KeepsSayings : Run → Run → Type 0
KeepsSayings earlier later = (x : ModuleVersion) (said : Result Dependency Class) → Says earlier x said
    → Says later x said
