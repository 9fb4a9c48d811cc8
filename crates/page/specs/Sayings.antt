-- A copy from crates/gm_graph_cache/specs/Sayings.antt, which tools/check/headline.py writes.
use Rattle.std.specs.Prelude.{◌≡◌, true, false, List, Contains, Option, Some, Result, Ok, Err}
use Rattle.page.specs.ModuleVersion.{ModuleVersion}
use Rattle.page.specs.Fields.{Dependency}
use Rattle.page.specs.Asked.{Name, Reply, answer_in}
use Rattle.page.specs.Types.{Sums, Class, NotFetchable, WrongPath}
use Rattle.page.specs.Main.{Main, replacement_in, without_excluded}
use Rattle.page.specs.Reading.{IsFileReading, file_of, is_askable, is_right_path}

-- A run: what the main file says, what the go.sum says if there is one, and the answer to each name that the store was
-- asked for.
pub record Run : Type 0 where
  pub main : Main
  pub sums : Option Sums
  pub answers : Name → Option Reply

abbrev pub run_of : Main → Option Sums → List (Name × Reply) → Run
run_of main sums asked = record { main = main; sums = sums; answers = answer_in asked }

-- What the file of a name says, or what is wrong with it. A file that is not answered says nothing.
pub data FileSays (run : Run) (name : Name) : Result Dependency Class → Type 0 where
  unaskable : is_askable name ≡ false → FileSays run name (Err NotFetchable)
  answered : (reply : Reply) {said : Result Dependency Class} → is_askable name ≡ true
      → run.answers name ≡ Some reply → IsFileReading run.sums name reply said → FileSays run name said

-- What the file of a module says, or its fault: that of the file, or that the file declares another path.
pub data Says (run : Run) (x : ModuleVersion) : Result Dependency Class → Type 0 where
  faulty : {class : Class} → FileSays run (file_of run.main x) (Err class) → Says run x (Err class)
  wrong_path : (file : Dependency) → FileSays run (file_of run.main x) (Ok file)
      → is_right_path x (replacement_in run.main x) file.declared ≡ false → Says run x (Err WrongPath)
  sound : {file : Dependency} → FileSays run (file_of run.main x) (Ok file)
      → is_right_path x (replacement_in run.main x) file.declared ≡ true → Says run x (Ok file)

-- The module's file requires the other module, which the main file does not exclude.
abbrev pub Requires : Run → ModuleVersion → ModuleVersion → Type 0
Requires run x y = (file : Dependency) × Says run x (Ok file) × Contains (without_excluded run.main file.requirements) y
