-- A dependency's file whose requirements are in a list of modules.
use Rattle.std.specs.Prelude.{ℕ, List, Option}
use Rattle.gm_name.specs.ModuleVersion.{ModuleVersion}
use Rattle.gm_name_table.specs.Listed.{Appends, NumberedList}
use Rattle.gm_file.specs.DepLines.{IsDependencyIn}
use Rattle.gm_file.specs.Fields.{Dependency}

-- what a dependency's file says, other than its requirements
pub record Head : Type 0 where
  pub declared : Option (List ℕ)
  pub go : ℕ × ℕ

-- what it says, with these requirements
abbrev pub with_requirements : Head → List ModuleVersion → Dependency
with_requirements head requirements = record {
  declared = head.declared;
  go = head.go;
  requirements = requirements;
}

-- The bytes can be read as a dependency's file, whose requirements were put to the end of a list.
abbrev pub IsListedFrom : List ℕ → NumberedList → NumberedList → Head → Type 0
IsListedFrom bytes old new head = (requirements : List ModuleVersion) × Appends old new requirements
    × IsDependencyIn bytes (with_requirements head requirements)
