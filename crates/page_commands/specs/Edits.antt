-- A copy from crates/gm_file_edit/specs/Edits.antt, which tools/check/headline.py writes.
use Rattle.std.specs.Prelude.{ℕ, ◌-◌, ◌==◌, ◌&&◌, ◌||◌, nat_lt, if◌then◌else◌, Bool, List, length, take, drop, slice_index, Option, Some, None, is_some, take_while, option_and_then}
use Rattle.std.specs.Option.{option_map}
use Rattle.std.specs.List.{suffix_len}
use Rattle.page_commands.specs.Names.{is_path, is_version}
use Rattle.page_commands.specs.ModuleVersion.{ModuleVersion}
use Rattle.page_commands.specs.GmFileValues.{both, is_folder_path}
use Rattle.page_commands.specs.GoVersions.{strict_go}
use Rattle.page_commands.specs.Directives.{VersionInterval, pair, Left, left_with, left_without, Right, Folder, Module, Replacing, replacing}
use Rattle.page_commands.specs.Operations.{has_byte, operation_named, split_at_byte}
use Rattle.page_commands.specs.Types.OperationKind.{OperationKind}
use Rattle.page_commands.specs.Types.OperationKind as op

-- a directive that an operation sets: there is then one of its kind, and it says this
pub data Setting : Type 0 where
  ModuleIs : List ℕ → Setting
  GoIs : List ℕ → Setting
  RequireAt : ModuleVersion → Setting
  ReplaceWith : Replacing → Setting

-- a directive that an operation adds if it isn't there
pub data Addition : Type 0 where
  Exclude : ModuleVersion → Addition
  Retract : VersionInterval → Addition

-- the directives that an operation drops: those of a path, of a pair, of a left side, of an interval
pub data Target : Type 0 where
  AnyRequire : List ℕ → Target
  AnyExclude : ModuleVersion → Target
  AnyReplace : Left → Target
  AnyRetract : VersionInterval → Target

-- an operation with its arguments
pub data Edit : Type 0 where
  Set : Setting → Edit
  Add : Addition → Edit
  Drop : Target → Edit

-- a module path
abbrev pub path_in : List ℕ → Option (List ℕ)
path_in text = if is_path text then Some text else None

-- a canonical version
abbrev pub version_in : List ℕ → Option (List ℕ)
version_in text = if is_version text then Some text else None

-- a go version that strict reading accepts
abbrev pub go_text_in : List ℕ → Option (List ℕ)
go_text_in text = if is_some (strict_go text) then Some text else None

-- a path, `@` and a version
unfoldable pub pair_in : List ℕ → Option ModuleVersion
pair_in text = option_and_then (λ parts. both pair (path_in parts.0) (version_in parts.1)) (split_at_byte 64 text)

-- a path, optionally with `@` and a version
unfoldable pub left_in : List ℕ → Option Left
left_in text =
    if has_byte 64 text then option_map (λ p. left_with p.0 p.1) (pair_in text)
    else option_map left_without (path_in text)

-- a folder, taken verbatim, without a line feed
abbrev pub folder_in : List ℕ → Option Right
folder_in text = if has_byte 10 text then None else Some (Folder text)

-- a folder, or a path, `@` and a version
unfoldable pub right_in : List ℕ → Option Right
right_in text =
    if is_folder_path text then folder_in text else option_map (λ p. Module p.0 p.1) (pair_in text)

-- a left side, `=` and a right side; the left side ends at the first `=`
unfoldable pub replacing_in : List ℕ → Option Replacing
replacing_in text =
    option_and_then (λ parts. both replacing (left_in parts.0) (right_in parts.1)) (split_at_byte 61 text)

abbrev pub is_space_or_tab : ℕ → Bool
is_space_or_tab b = (b == 32) || (b == 9)

-- the text without the spaces and tabs at its start
abbrev pub without_leading : List ℕ → List ℕ
without_leading text = drop (length (take_while is_space_or_tab text)) text

-- the text without the spaces and tabs at its end
abbrev pub without_trailing : List ℕ → List ℕ
without_trailing text = take (length text - suffix_len is_space_or_tab text) text

-- the text without the spaces and tabs at its start and its end
unfoldable pub trim : List ℕ → List ℕ
trim text = without_trailing (without_leading text)

-- whether the text starts with `[` and ends with another byte, `]`
abbrev pub is_bracketed : List ℕ → Bool
is_bracketed text = nat_lt 1 (length text) && (slice_index text 0 == 91) && (slice_index text (length text - 1) == 93)

-- the text without its first byte and its last
abbrev pub inside_brackets : List ℕ → List ℕ
inside_brackets text = take (length text - 2) (drop 1 text)

-- a version as both ends of an interval
abbrev pub one_version_in : List ℕ → Option VersionInterval
one_version_in text = option_map (λ v. pair v v) (version_in text)

-- two versions separated by a comma; spaces and tabs are allowed around each
abbrev pub two_versions_in : List ℕ → Option VersionInterval
two_versions_in text =
    option_and_then (λ parts. both pair (version_in (trim parts.0)) (version_in (trim parts.1)))
    (split_at_byte 44 text)

-- a version, which is both ends, or two in brackets
unfoldable pub interval_in : List ℕ → Option VersionInterval
interval_in text = if is_bracketed text then two_versions_in (inside_brackets text) else one_version_in text

-- the operation of this kind with this argument
abbrev pub edit_as : OperationKind → List ℕ → Option Edit
edit_as op.Module text = option_map (λ path. Set (ModuleIs path)) (path_in text)
edit_as op.Go text = option_map (λ version. Set (GoIs version)) (go_text_in text)
edit_as op.Require text = option_map (λ p. Set (RequireAt p)) (pair_in text)
edit_as op.DropRequire text = option_map (λ path. Drop (AnyRequire path)) (path_in text)
edit_as op.Exclude text = option_map (λ p. Add (Exclude p)) (pair_in text)
edit_as op.DropExclude text = option_map (λ p. Drop (AnyExclude p)) (pair_in text)
edit_as op.Replace text = option_map (λ r. Set (ReplaceWith r)) (replacing_in text)
edit_as op.DropReplace text = option_map (λ left. Drop (AnyReplace left)) (left_in text)
edit_as op.Retract text = option_map (λ ends. Add (Retract ends)) (interval_in text)
edit_as op.DropRetract text = option_map (λ ends. Drop (AnyRetract ends)) (interval_in text)

-- the operation with this name and this argument
unfoldable pub edit_named : List ℕ → List ℕ → Option Edit
edit_named name text = option_and_then (λ kind. edit_as kind text) (operation_named name)

-- the operation that a text spells
unfoldable pub edit_in : List ℕ → Option Edit
edit_in text = option_and_then (λ parts. edit_named parts.0 parts.1) (split_at_byte 61 text)
