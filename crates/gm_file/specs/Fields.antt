-- The fields of a file that has been read.
use Rattle.std.specs.Prelude.{ℕ, ◌==◌, if◌then◌else◌, List, [], ◌∷◌, find, length, Option, Some, None, unwrap_or, option_and_then}
use Rattle.std.specs.Option.{option_map, option_or}
use Rattle.std.specs.List.{filter_map}
use Rattle.gm_name.specs.ModuleVersion.{ModuleVersion}
use Rattle.gm_syntax_words.specs.Words.{Word}
use Rattle.gm_syntax.specs.Document.{Line}
use Rattle.gm_file.specs.Directives.{Mode, Strict, Lax, VersionInterval, Left, left_with, left_without, Right, Replacing, Directive, DeclaresModule, DeclaresGo, Requires, Excludes, Replaces, Retracts, directives}
use Rattle.gm_file.specs.Faults.{ends_kinds, go_in, is_same_left}

-- ---- the parts of a directive, if it is of the right verb

abbrev pub as_module : Directive → Option (List ℕ)
as_module (DeclaresModule path) = Some path
as_module _ = None

abbrev pub as_go : Directive → Option (List ℕ)
as_go (DeclaresGo text) = Some text
as_go _ = None

abbrev pub as_requirement : Directive → Option ModuleVersion
as_requirement (Requires p) = Some p
as_requirement _ = None

abbrev pub as_exclusion : Directive → Option ModuleVersion
as_exclusion (Excludes p) = Some p
as_exclusion _ = None

abbrev pub as_replacing : Directive → Option Replacing
as_replacing (Replaces r) = Some r
as_replacing _ = None

-- the ends of a retracted interval
abbrev pub as_interval : Directive → Option VersionInterval
as_interval (Retracts ends) = Some ends
as_interval _ = None

-- ---- the fields

-- the first element, if any
abbrev pub first : {X : Type 0} → List X → Option X
first [] = None
first (x ∷ xs) = Some x

-- the declared path
abbrev pub module_of : Mode → List (Line Word) → Option (List ℕ)
module_of mode lines = first (filter_map as_module (directives mode lines))

-- the first two numbers of the go version, which is 1.16 if none is declared
abbrev pub go_of : Mode → List (Line Word) → ℕ × ℕ
go_of mode lines = unwrap_or (option_and_then (go_in mode) (first (filter_map as_go (directives mode lines)))) (1, 16)

abbrev pub requirements_of : Mode → List (Line Word) → List ModuleVersion
requirements_of mode lines = filter_map as_requirement (directives mode lines)

abbrev pub excludes_of : List (Line Word) → List ModuleVersion
excludes_of lines = filter_map as_exclusion (directives Strict lines)

abbrev pub replaces_of : List (Line Word) → List Replacing
replaces_of lines = filter_map as_replacing (directives Strict lines)

abbrev pub retracts_of : List (Line Word) → List VersionInterval
retracts_of lines = filter_map as_interval (directives Strict lines)

-- the ends of an interval, if both are versions
abbrev pub valid_ends : VersionInterval → Option VersionInterval
valid_ends ends = if length (ends_kinds ends) == 0 then Some ends else None

-- the ends of a retracted interval, if both are versions
abbrev pub valid_interval : Directive → Option VersionInterval
valid_interval (Retracts ends) = valid_ends ends
valid_interval _ = None

-- the intervals that a dependency's file retracts: an entry that strict reading would refuse retracts nothing
abbrev pub lax_retracts_of : List (Line Word) → List VersionInterval
lax_retracts_of lines = filter_map valid_interval (directives Strict lines)

-- the fields of a dependency's file that a build needs
pub record Dependency : Type 0 where
  pub declared : Option (List ℕ)
  pub go : ℕ × ℕ
  pub requirements : List ModuleVersion

abbrev pub dependency_of : List (Line Word) → Dependency
dependency_of lines = record {
  declared = module_of Lax lines;
  go = go_of Lax lines;
  requirements = requirements_of Lax lines;
}

-- the same with the intervals that the file retracts, which a build does not need
pub record DependencyFile : Type 0 where
  pub dependency : Dependency
  pub retracts : List VersionInterval

-- ---- lookups

-- the right side of the first replace with this left side
abbrev pub right_for : List Replacing → Left → Option Right
right_for replaces left = option_map (λ (r : Replacing). r.1) (find (λ (r : Replacing). is_same_left left r.0) replaces)

-- the replacement of a path and a version: a replace of this version has precedence over one of the whole path
abbrev pub replacement_of : List Replacing → ModuleVersion → Option Right
replacement_of replaces pair =
    option_or (right_for replaces (left_with pair.0 pair.1)) (right_for replaces (left_without pair.0))
