-- Where files are kept, the places that are noted for modules, and what changes of them.
use Rattle.std.specs.Prelude.{◌≡◌, ◌==◌, ◌<◌, ◌≤◌, ◌++◌, ◌∷◌, [], if◌then◌else◌, ℕ, true, List, Option, Some, None, IsSome, length, slice_index_or}
use Rattle.std.specs.Map.{lookup}
use Rattle.std.specs.Option.{option_map}
use Rattle.gm_name.specs.ModuleVersion.{ModuleVersion, module_at}
use Rattle.gm_name_table.specs.OptionalPlaces.{no_place, place_in}
use Rattle.gm_store_parts.specs.Asked.{Name, name_of, same_name}
use Rattle.gm_graph_cache.specs.declared.cache.file_table.FileTable.{FileTable}
use Rattle.gm_graph_files.specs.declared.summary.Kept.{Kept}
use Rattle.gm_file.specs.Main.{Main, replacement_in}
use Rattle.gm_graph_files.specs.Reading.{file_of, is_askable}
use Rattle.gm_graph_cache.specs.FileTable.{kept_at, place_of}

-- the place that is noted for the module with a number, if any
abbrev pub place_noted : FileTable → ℕ → Option ℕ
place_noted files number = place_in (slice_index_or files.places.items number no_place)

-- the place that is noted for a replacement's file, or that none is, if the name is that of one
abbrev pub replacing_place : FileTable → Name → Option (Option ℕ)
replacing_place files name =
    option_map place_in (lookup (λ file. same_name name (name_of file)) files.replacing.entries)

-- ---- what is noted is so

-- This is the place of the module's file, which may be asked for.
pub record IsPlacedAt (main : Main) (files : FileTable) (x : ModuleVersion) (place : ℕ) : Type 0 where
  pub placed : place_of files (file_of main x) ≡ Some place
  pub askable : is_askable (file_of main x) ≡ true

-- No place is noted for the modules with this file.
abbrev pub IsUnnoted : Main → List ModuleVersion → FileTable → Name → Type 0
IsUnnoted main modules files name = (number : ℕ) → number < length modules
    → name ≡ file_of main (module_at modules number) → place_noted files number ≡ None

-- Each place that is noted is that of the file, and each place is noted: that of a replacement's file for the file, any
-- other for a module. The file of each replaced vertex is one of those of the replacements.
pub record NotesFiles (main : Main) (modules : List ModuleVersion) (files : FileTable) : Type 0 where
  pub has_replacing : (x : ModuleVersion) → IsSome (replacement_in main x)
      → IsSome (replacing_place files (file_of main x))
  pub modules_noted : (number place : ℕ) → place_noted files number ≡ Some place
      → IsPlacedAt main files (module_at modules number) place
  pub replacing_noted : (name : Name) (place : Option ℕ) → replacing_place files name ≡ Some place
      → place_of files name ≡ place
  pub others_noted : (name : Name) → IsUnnoted main modules files name → replacing_place files name ≡ None
      → place_of files name ≡ None

-- The name is that of the file of the module with this number. It may be asked for, and has no place.
pub record IsNewFile (main : Main) (modules : List ModuleVersion) (files : FileTable) (number : ℕ) (name : Name)
    : Type 0 where
  pub within : number < length modules
  pub named : name ≡ file_of main (module_at modules number)
  pub askable : is_askable name ≡ true
  pub none : place_of files name ≡ None

-- ---- what changes

-- One more file is kept, and those of the other names stay.
abbrev pub PutsFile : FileTable → FileTable → Name → Kept → Type 0
PutsFile old new name kept = (other : Name) → kept_at new other
    ≡ (if same_name other name then Some kept else kept_at old other)

-- The files of all names stay.
abbrev pub KeepsFiles : FileTable → FileTable → Type 0
KeepsFiles old new = (name : Name) → kept_at new name ≡ kept_at old name

-- The places that are noted for numbers stay.
abbrev pub KeepsNoted : FileTable → FileTable → Type 0
KeepsNoted old new = (number : ℕ) → place_noted new number ≡ place_noted old number

-- This place is noted for this number now, and those for the other numbers stay.
abbrev pub NotesFor : FileTable → FileTable → ℕ → ℕ → Type 0
NotesFor old new number place = (other : ℕ) → place_noted new other
    ≡ (if number == other then Some place else place_noted old other)

-- The list of places grows to this number at most.
abbrev pub ReachesAtMost : ℕ → FileTable → FileTable → Type 0
ReachesAtMost number old new = (count : ℕ) → number < count → length old.places.items ≤ count
    → length new.places.items ≤ count

-- One file more is kept, under this name, and after the others. Its place is noted for this number, and for the name if
-- that is one of a replacement's file.
pub record Adds (old new : FileTable) (name : Name) (number : ℕ) (kept : Kept) (place : ℕ) : Type 0 where
  pub last : place ≡ length old.files.items
  pub files : new.files.items ≡ old.files.items ++ kept ∷ []
  pub named : (other : Name) → place_of new other ≡ (if same_name other name then Some place else place_of old other)
  pub noted : NotesFor old new number place
  pub replacing : (other : Name) → replacing_place new other ≡ (if same_name other name
      then option_map (λ _. Some place) (replacing_place old other) else replacing_place old other)

-- The files and their names stay, and so do the places of the files of replacements.
pub record KeepsOthers (old new : FileTable) : Type 0 where
  pub files : new.files.items ≡ old.files.items
  pub names : new.names.items ≡ old.names.items
  pub replacing : new.replacing ≡ old.replacing
