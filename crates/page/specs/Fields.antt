-- A copy from crates/gm_file/specs/Fields.antt, which tools/check/headline.py writes.
use Rattle.std.specs.Prelude.{ℕ, List, find, Option}
use Rattle.std.specs.Option.{option_map, option_or}
use Rattle.page.specs.ModuleVersion.{ModuleVersion}
use Rattle.page.specs.Directives.{Left, left_with, left_without, Right, Replacing}
use Rattle.page.specs.Faults.{is_same_left}

-- the fields of a dependency's file that a build needs
pub record Dependency : Type 0 where
  pub declared : Option (List ℕ)
  pub go : ℕ × ℕ
  pub requirements : List ModuleVersion

-- the right side of the first replace with this left side
abbrev pub right_for : List Replacing → Left → Option Right
right_for replaces left = option_map (λ (r : Replacing). r.1) (find (λ (r : Replacing). is_same_left left r.0) replaces)

-- the replacement of a path and a version: a replace of this version has precedence over one of the whole path
abbrev pub replacement_of : List Replacing → ModuleVersion → Option Right
replacement_of replaces pair =
    option_or (right_for replaces (left_with pair.0 pair.1)) (right_for replaces (left_without pair.0))
