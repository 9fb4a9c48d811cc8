-- A copy from crates/gm_graph_files/specs/Reading.antt, which tools/check/headline.py writes.
use Rattle.std.specs.Prelude.{◌≡◌, ◌||◌, ℕ, Bool, true, false, List, Option, Some, None, Result, Ok, Err}
use Rattle.std.specs.Str.{bytes_eq}
use Rattle.page.specs.Path.{is_fetchable}
use Rattle.page.specs.ModuleVersion.{ModuleVersion}
use Rattle.page.specs.Directives.{Lax, Right, Folder, Module}
use Rattle.page.specs.Files.{IsDependencyIn, IsMisread, sum_fault}
use Rattle.page.specs.Fields.{Dependency}
use Rattle.page.specs.Asked.{Name, Reply, mod_file, folder_file, bytes, absent, too_long}
use Rattle.page.specs.Types.{Sums, Class, Missing, TooLong, Malformed}
use Rattle.page.specs.Types as misreading
use Rattle.page.specs.Main.{Main, replacement_in}

-- the file of a vertex: that of its replacement, or its own
abbrev pub file_named : ModuleVersion → Option Right → Name
file_named x None = mod_file x.0 x.1
file_named x (Some (Folder text)) = folder_file text
file_named x (Some (Module path version)) = mod_file path version

abbrev pub file_of : Main → ModuleVersion → Name
file_of main x = file_named x (replacement_in main x)

-- A .mod file may be asked for if its path is fetchable, any other file always.
abbrev pub is_askable : Name → Bool
is_askable (mod_file path version) = is_fetchable path
is_askable _ = true

-- The contents of the bytes as a dependency's file, or why they can't be read. No store gives too many bytes.
abbrev pub IsContentReading : List ℕ → Result Dependency Class → Type 0
IsContentReading content (Ok file) = IsDependencyIn content file
IsContentReading content (Err (Malformed line misreading.TooMany)) = ⊥
IsContentReading content (Err (Malformed line kind)) = IsMisread Lax content line kind
IsContentReading content (Err class) = ⊥

-- A fault that was found first takes precedence over the contents of the bytes.
abbrev pub IsReadUnless : Option Class → List ℕ → Result Dependency Class → Type 0
IsReadUnless (Some class) content reading = reading ≡ Err class
IsReadUnless None content reading = IsContentReading content reading

-- What the reply to a name says, or what is wrong with it: the first that applies.
abbrev pub IsFileReading : Option Sums → Name → Reply → Result Dependency Class → Type 0
IsFileReading sums name absent reading = reading ≡ Err Missing
IsFileReading sums name too_long reading = reading ≡ Err TooLong
IsFileReading sums name (bytes content) reading = IsReadUnless (sum_fault sums name content) content reading

abbrev pub declares : List ℕ → Option (List ℕ) → Bool
declares path None = false
declares path (Some declared) = bytes_eq declared path

-- The declared path is the vertex's own. If another module replaces the vertex, it may be that module's path as
-- well; in a replacing folder it may be any path or none.
abbrev pub is_right_path : ModuleVersion → Option Right → Option (List ℕ) → Bool
is_right_path x None declared = declares x.0 declared
is_right_path x (Some (Folder text)) declared = true
is_right_path x (Some (Module path version)) declared = declares x.0 declared || declares path declared
