-- The requirements of a file while it is read.
use Rattle.std.specs.Prelude.{List, Option, Some, None, drop, length, ⊤}
use Rattle.gm_name.specs.ModuleVersion.{ModuleVersion}
use Rattle.gm_name_table.specs.Listed.{Appends, NumberedList, modules_of}
use Rattle.gm_file.specs.declared.required.Destination.{Destination}
use Rattle.gm_file.specs.declared.required.Destination.TheVariants as place

-- the requirements; and if they go to the end of a list of modules, that list as it was before
pub record Requirements : Type 0 where
  pub before : Option NumberedList
  pub items : List ModuleVersion

-- the modules that a list has after those that it had before
abbrev pub added : NumberedList → NumberedList → List ModuleVersion
added before list = drop (length before.numbers) (modules_of list)

-- the requirements in a place
abbrev pub items_in : Destination → Requirements
items_in (place.Own pairs) = record { before = None; items = pairs.items }
items_in (place.End list before) = record { before = Some before.value; items = added before.value list }

-- A list that requirements are put to the end of is what it was before, with these modules put to its end.
abbrev pub IsGrownList : Destination → Type 0
IsGrownList (place.Own pairs) = ⊤
IsGrownList (place.End list before) = Appends before.value list (added before.value list)
