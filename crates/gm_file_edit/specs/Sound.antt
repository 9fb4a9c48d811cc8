-- How contracts see a parsed operation, and what is known of its arguments. Of this file public contracts name none but
-- `edit_of`, the view of `Op`.
use Rattle.std.specs.Prelude.{◌≡◌, ℕ, List, Option, Some, None, string_bytes, ⊤, true, false, is_some}
use Rattle.gm_file.specs.Directives.{Left, VersionInterval, Right, Folder, Module}
use Rattle.gm_file_edit.specs.declared.part.LeftSide.{LeftSide}
use Rattle.gm_file.specs.Views.{interval_view, replace_view}
use Rattle.gm_file_edit.specs.declared.op.Addition as declared_addition
use Rattle.gm_file_edit.specs.declared.op.Addition.TheVariants as addition
use Rattle.gm_file_edit.specs.declared.op.Setting as declared_setting
use Rattle.gm_file_edit.specs.declared.op.Setting.TheVariants as setting
use Rattle.gm_file_edit.specs.declared.op.Target as declared_target
use Rattle.gm_file_edit.specs.declared.op.Target.TheVariants as target
use Rattle.gm_file_edit.specs.declared.op.Change as declared
use Rattle.gm_file_edit.specs.declared.op.Change.TheVariants as change
use Rattle.gm_file_edit.specs.Edits.{Edit, Set, Add, Drop, Setting, ModuleIs, GoIs, RequireAt, ReplaceWith, Addition, Exclude, Retract, Target, AnyRequire, AnyExclude, AnyReplace, AnyRetract}
use Rattle.gm_operation.specs.Operations.{has_byte}
use Rattle.gm_name.specs.Names.{is_path, is_version}
use Rattle.gm_name.specs.ModuleVersion.{ModuleVersion}
use Rattle.gm_file.specs.Values.{is_folder_path}
use Rattle.gm_file.specs.GoVersions.{strict_go}

-- ---- the program's values as contracts see them

-- the left side of a replace
abbrev pub left_view : LeftSide → Left
left_view side = record { path = side.path; version = side.version }

-- the directive that is set
abbrev pub setting_of : declared_setting.Setting → Setting
setting_of (setting.Module path) = ModuleIs path
setting_of (setting.Go text) = GoIs (string_bytes text)
setting_of (setting.Require p) = RequireAt p
setting_of (setting.Replace r) = ReplaceWith (replace_view r)

-- the directive that is added
abbrev pub addition_of : declared_addition.Addition → Addition
addition_of (addition.Exclude p) = Exclude p
addition_of (addition.Retract ends) = Retract (interval_view ends)

-- the directives that are dropped
abbrev pub target_of : declared_target.Target → Target
target_of (target.Require path) = AnyRequire path
target_of (target.Exclude p) = AnyExclude p
target_of (target.Replace side) = AnyReplace (left_view side)
target_of (target.Retract ends) = AnyRetract (interval_view ends)

-- the operation that a change is
abbrev pub edit_of : declared.Change → Edit
edit_of (change.Set s) = Set (setting_of s)
edit_of (change.Add a) = Add (addition_of a)
edit_of (change.Drop t) = Drop (target_of t)

-- ---- valid arguments

-- a path and a version
abbrev pub IsPairOfNames : ModuleVersion → Type 0
IsPairOfNames p = (is_path p.0 ≡ true) × (is_version p.1 ≡ true)

-- two versions
abbrev pub AreVersions : VersionInterval → Type 0
AreVersions ends = (is_version ends.0 ≡ true) × (is_version ends.1 ≡ true)

-- a version, or none
abbrev pub IsSoundVersion : Option (List ℕ) → Type 0
IsSoundVersion None = ⊤
IsSoundVersion (Some version) = is_version version ≡ true

-- a left side
abbrev pub IsSoundLeft : Left → Type 0
IsSoundLeft left = (is_path left.path ≡ true) × IsSoundVersion left.version

-- a right side; a folder has no line feed
abbrev pub IsSoundRight : Right → Type 0
IsSoundRight (Folder text) = (is_folder_path text ≡ true) × (has_byte 10 text ≡ false)
IsSoundRight (Module path version) = (is_path path ≡ true) × (is_version version ≡ true)

-- The arguments that an operation puts into a file are valid. Those of drops aren't put in, so nothing is said of
-- them.
abbrev pub IsSoundEdit : Edit → Type 0
IsSoundEdit (Set (ModuleIs path)) = is_path path ≡ true
IsSoundEdit (Set (GoIs text)) = is_some (strict_go text) ≡ true
IsSoundEdit (Set (RequireAt p)) = IsPairOfNames p
IsSoundEdit (Drop t) = ⊤
IsSoundEdit (Add (Exclude p)) = IsPairOfNames p
IsSoundEdit (Set (ReplaceWith r)) = IsSoundLeft r.0 × IsSoundRight r.1
IsSoundEdit (Add (Retract ends)) = AreVersions ends
