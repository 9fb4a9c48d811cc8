-- A copy from crates/gm_graph_files/specs/Reading.antt, which tools/check/headline.py writes.
use Rattle.std.specs.Prelude.{◌≡◌, ℕ, List, Option, Some, None, Result, Ok, Err}
use Rattle.page_commands.specs.Directives.{Lax, VersionInterval}
use Rattle.page_commands.specs.DepLines.{AreRetractedIn, IsDependencyIn}
use Rattle.page_commands.specs.Fields.{Dependency}
use Rattle.page_commands.specs.Misreading.{IsMisread}
use Rattle.page_commands.specs.Asked.{Name, Reply, mod_file, folder_file, list_file, bytes, absent, too_long}
use Rattle.page_commands.specs.Sums.{Sums, check_in}
use Rattle.page_commands.specs.Hash.{file_hash}
use Rattle.page_commands.specs.Types.Sum.{Sum, Good, Unlisted, Differs}
use Rattle.page_commands.specs.Types.Class.{Class, Missing, TooLong, NoSum, SumDiffers, Malformed}
use Rattle.page_commands.specs.Types.Misreading as misreading

-- the class of a failed hash check
abbrev pub class_of_sum : Sum → Option Class
class_of_sum Good = None
class_of_sum Unlisted = Some NoSum
class_of_sum Differs = Some SumDiffers

-- What a go.sum, if there is one, finds wrong with the bytes of a proxy file, under that file's own path and
-- version.
abbrev pub sum_fault : Option Sums → Name → List ℕ → Option Class
sum_fault None name content = None
sum_fault (Some table) (mod_file path version) content = class_of_sum (check_in table path version (file_hash content))
sum_fault (Some table) (folder_file text) content = None
sum_fault (Some table) (list_file path) content = None

-- The contents of the bytes as a dependency's file, or why they can't be read. No store gives too many bytes.
abbrev pub IsContentReading : List ℕ → Result Dependency Class → Type 0
IsContentReading content (Ok file) = IsDependencyIn content file
IsContentReading content (Err (Malformed line misreading.TooMany)) = ⊥
IsContentReading content (Err (Malformed line kind)) = IsMisread Lax content line kind
IsContentReading content (Err class) = ⊥

-- A fault that was found first takes precedence over the contents of the bytes.
abbrev pub IsReadUnless : Option Class → List ℕ → Result Dependency Class → Type 0
IsReadUnless (Some class) content reading = reading ≡ Err class
IsReadUnless None content reading = IsContentReading content reading

-- What the reply to a name says, or what is wrong with it: the first that applies.
abbrev pub IsFileReading : Option Sums → Name → Reply → Result Dependency Class → Type 0
IsFileReading sums name absent reading = reading ≡ Err Missing
IsFileReading sums name too_long reading = reading ≡ Err TooLong
IsFileReading sums name (bytes content) reading = IsReadUnless (sum_fault sums name content) content reading

-- The reply to a name is a file that retracts these intervals.
abbrev pub AreRetractedBy : Reply → List VersionInterval → Type 0
AreRetractedBy (bytes content) intervals = AreRetractedIn content intervals
AreRetractedBy _ intervals = ⊥
