-- Parts of a line while they are read, and the faults of texts.
use Rattle.gm_name_table.specs.Kept.{IsWithinRoom, KeepsAll, KeptCounts}
use Rattle.std.specs.Prelude.{◌≡◌, List, [], ◌∷◌, Option, Some, None, Result, Ok, Err, ⊤, ℕ, string_bytes}
use Rattle.gm_file.specs.declared.fault.DirectiveKind.{DirectiveKind}
use Rattle.gm_file.specs.declared.fault.LineFault.{LineFault}
use Rattle.gm_file.specs.declared.fault.LineFault.TheVariants as line
use Rattle.gm_file.specs.Fields.{first}
use Rattle.std.specs.Option.{option_map}
use Rattle.gm_file.specs.declared.sides.LeftText.{LeftText}
use Rattle.gm_file.specs.declared.sides.RightText.{RightText}
use Rattle.gm_file.specs.declared.sides.RightText.TheVariants as text
use Rattle.gm_file.specs.declared.fault.FileFault.{FileFault}
use Rattle.gm_file.specs.declared.fault.FileFault.TheVariants as fault
use Rattle.gm_name.specs.declared.path.PathFault.TheVariants as path
use Rattle.gm_version.specs.declared.version.VersionFault.TheVariants as version
use Rattle.gm_file.specs.Directives.{Left, Right, Folder, Module}

-- none is forgotten, and no more are kept than there is room for
pub record KeepsNames (old new : KeptCounts) : Type 0 where
  pub kept : KeepsAll old new
  pub within : IsWithinRoom old → IsWithinRoom new

-- the kinds of faults of a part of an entry: that it is missing, or its own
abbrev pub part_kinds : {X : Type 0} → DirectiveKind → (X → List DirectiveKind) → Option X → List DirectiveKind
part_kinds wrong kinds None = wrong ∷ []
part_kinds wrong kinds (Some x) = kinds x

-- the result is the part, which has no fault, or the first kind of the part's faults
abbrev pub IsPartRead : {X Y : Type 0} → (Y → X) → DirectiveKind → (X → List DirectiveKind) → Option X
    → Result Y LineFault → Type 0
IsPartRead view wrong kinds part (Ok y) = (part ≡ Some (view y)) × (kinds (view y) ≡ [])
IsPartRead view wrong kinds part (Err line.NoMemory) = ⊤
IsPartRead view wrong kinds part (Err (line.Kind kind)) = first (part_kinds wrong kinds part) ≡ Some kind

-- the text of the left side of a replace
abbrev pub left_text_view : LeftText → Left
left_text_view left = record { path = string_bytes left.path; version = option_map string_bytes left.version }

-- the text of its right side
abbrev pub right_text_view : RightText → Right
right_text_view (text.Folder folder) = Folder (string_bytes folder)
right_text_view (text.Module path version) = Module (string_bytes path) (string_bytes version)

-- the fault of a line as one of the file
abbrev pub file_fault_at : ℕ → LineFault → FileFault
file_fault_at number line.NoMemory = fault.NoMemory
file_fault_at number (line.Kind kind) = fault.Directive number kind
