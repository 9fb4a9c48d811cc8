-- A copy from crates/gm_file/specs/Fields.antt, which tools/check/headline.py writes.
use Rattle.std.specs.Prelude.{ℕ, ◌==◌, if◌then◌else◌, List, [], ◌∷◌, length, Option, Some, None, unwrap_or, option_and_then}
use Rattle.std.specs.List.{filter_map}
use Rattle.page_commands.specs.ModuleVersion.{ModuleVersion}
use Rattle.page_commands.specs.Words.{Word}
use Rattle.page_commands.specs.Document.{Line}
use Rattle.page_commands.specs.Directives.{Mode, Strict, Lax, VersionInterval, Directive, DeclaresModule, DeclaresGo, Requires, Retracts, directives}
use Rattle.page_commands.specs.Faults.{ends_kinds, go_in}

abbrev pub as_module : Directive → Option (List ℕ)
as_module (DeclaresModule path) = Some path
as_module _ = None

abbrev pub as_go : Directive → Option (List ℕ)
as_go (DeclaresGo text) = Some text
as_go _ = None

abbrev pub as_requirement : Directive → Option ModuleVersion
as_requirement (Requires p) = Some p
as_requirement _ = None

-- the first element, if any
abbrev pub first : {X : Type 0} → List X → Option X
first [] = None
first (x ∷ xs) = Some x

-- the declared path
abbrev pub module_of : Mode → List (Line Word) → Option (List ℕ)
module_of mode lines = first (filter_map as_module (directives mode lines))

-- the first two numbers of the go version, which is 1.16 if none is declared
abbrev pub go_of : Mode → List (Line Word) → ℕ × ℕ
go_of mode lines = unwrap_or (option_and_then (go_in mode) (first (filter_map as_go (directives mode lines)))) (1, 16)

abbrev pub requirements_of : Mode → List (Line Word) → List ModuleVersion
requirements_of mode lines = filter_map as_requirement (directives mode lines)

-- the ends of an interval, if both are versions
abbrev pub valid_ends : VersionInterval → Option VersionInterval
valid_ends ends = if length (ends_kinds ends) == 0 then Some ends else None

-- the ends of a retracted interval, if both are versions
abbrev pub valid_interval : Directive → Option VersionInterval
valid_interval (Retracts ends) = valid_ends ends
valid_interval _ = None

-- the intervals that a dependency's file retracts: an entry that strict reading would refuse retracts nothing
abbrev pub lax_retracts_of : List (Line Word) → List VersionInterval
lax_retracts_of lines = filter_map valid_interval (directives Strict lines)

-- the fields of a dependency's file that a build needs
pub record Dependency : Type 0 where
  pub declared : Option (List ℕ)
  pub go : ℕ × ℕ
  pub requirements : List ModuleVersion

abbrev pub dependency_of : List (Line Word) → Dependency
dependency_of lines = record {
  declared = module_of Lax lines;
  go = go_of Lax lines;
  requirements = requirements_of Lax lines;
}
