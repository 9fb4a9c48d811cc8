-- What a store's answer to a name says, and which file a vertex has.
use Rattle.std.specs.Prelude.{◌≡◌, ◌||◌, ℕ, Bool, true, false, List, Option, Some, None, Result, Ok, Err}
use Rattle.std.specs.Str.{bytes_eq}
use Rattle.gm_name.specs.Path.{is_fetchable}
use Rattle.gm_name.specs.ModuleVersion.{ModuleVersion}
use Rattle.gm_file.specs.Directives.{Lax, Right, Folder, Module, VersionInterval}
use Rattle.gm_file.specs.DepLines.{AreRetractedIn, IsDependencyIn}
use Rattle.gm_file.specs.Fields.{Dependency}
use Rattle.gm_file.specs.Misreading.{IsMisread}
use Rattle.gm_store_parts.specs.Asked.{Name, Reply, mod_file, folder_file, list_file, bytes, absent, too_long}
use Rattle.gm_store_sums.specs.Sums.{Sums, check_in}
use Rattle.gm_store_sums.specs.Hash.{file_hash}
use Rattle.gm_store_sums.specs.declared.sum_table.Sum.{Sum}
use Rattle.gm_store_sums.specs.declared.sum_table.Sum.TheVariants.{Good, Unlisted, Differs}
use Rattle.gm_graph_files.specs.declared.class.Class.{Class}
use Rattle.gm_graph_files.specs.declared.class.Class.TheVariants.{Missing, TooLong, NoSum, SumDiffers, Malformed}
use Rattle.gm_file.specs.declared.misreading.Misreading.TheVariants as misreading
use Rattle.gm_file.specs.Main.{Main, replacement_in}

-- ---- which file is read

-- the file of a vertex: that of its replacement, or its own
abbrev pub file_named : ModuleVersion → Option Right → Name
file_named x None = mod_file x.0 x.1
file_named x (Some (Folder text)) = folder_file text
file_named x (Some (Module path version)) = mod_file path version

abbrev pub file_of : Main → ModuleVersion → Name
file_of main x = file_named x (replacement_in main x)

-- A .mod file may be asked for if its path is fetchable, any other file always.
abbrev pub is_askable : Name → Bool
is_askable (mod_file path version) = is_fetchable path
is_askable _ = true

-- ---- what a file says, or what is wrong with it

-- the class of a failed hash check
abbrev pub class_of_sum : Sum → Option Class
class_of_sum Good = None
class_of_sum Unlisted = Some NoSum
class_of_sum Differs = Some SumDiffers

-- What a go.sum, if there is one, finds wrong with the bytes of a proxy file, under that file's own path and
-- version.
abbrev pub sum_fault : Option Sums → Name → List ℕ → Option Class
sum_fault None name content = None
sum_fault (Some table) (mod_file path version) content = class_of_sum (check_in table path version (file_hash content))
sum_fault (Some table) (folder_file text) content = None
sum_fault (Some table) (list_file path) content = None

-- The contents of the bytes as a dependency's file, or why they can't be read. No store gives too many bytes.
abbrev pub IsContentReading : List ℕ → Result Dependency Class → Type 0
IsContentReading content (Ok file) = IsDependencyIn content file
IsContentReading content (Err (Malformed line misreading.TooMany)) = ⊥
IsContentReading content (Err (Malformed line kind)) = IsMisread Lax content line kind
IsContentReading content (Err class) = ⊥

-- A fault that was found first takes precedence over the contents of the bytes.
abbrev pub IsReadUnless : Option Class → List ℕ → Result Dependency Class → Type 0
IsReadUnless (Some class) content reading = reading ≡ Err class
IsReadUnless None content reading = IsContentReading content reading

-- What the reply to a name says, or what is wrong with it: the first that applies.
abbrev pub IsFileReading : Option Sums → Name → Reply → Result Dependency Class → Type 0
IsFileReading sums name absent reading = reading ≡ Err Missing
IsFileReading sums name too_long reading = reading ≡ Err TooLong
IsFileReading sums name (bytes content) reading = IsReadUnless (sum_fault sums name content) content reading

-- The reply to a name is a file that retracts these intervals.
abbrev pub AreRetractedBy : Reply → List VersionInterval → Type 0
AreRetractedBy (bytes content) intervals = AreRetractedIn content intervals
AreRetractedBy _ intervals = ⊥

-- ---- whether it declares the path of a vertex

abbrev pub declares : List ℕ → Option (List ℕ) → Bool
declares path None = false
declares path (Some declared) = bytes_eq declared path

-- The declared path is the vertex's own. If another module replaces the vertex, it may be that module's path as
-- well; in a replacing folder it may be any path or none.
abbrev pub is_right_path : ModuleVersion → Option Right → Option (List ℕ) → Bool
is_right_path x None declared = declares x.0 declared
is_right_path x (Some (Folder text)) declared = true
is_right_path x (Some (Module path version)) declared = declares x.0 declared || declares path declared
