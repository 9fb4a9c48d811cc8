-- A copy from crates/gm_file_edit/specs/About.antt, which tools/check/headline.py writes.
use Rattle.std.specs.Prelude.{ℕ, ◌&&◌, Bool, false, List, Option, Some, None}
use Rattle.std.specs.Str.{bytes_eq}
use Rattle.page_commands.specs.ModuleVersion.{ModuleVersion, pair_eq}
use Rattle.page_commands.specs.Directives.{VersionInterval, Left, Directive, Requires, Excludes, Replaces, Retracts}
use Rattle.page_commands.specs.Faults.{is_go, is_module, is_same_left}
use Rattle.page_commands.specs.Edits.{Edit, Set, ModuleIs, GoIs, RequireAt, Drop, AnyRequire, Add, Exclude, AnyExclude, ReplaceWith, AnyReplace, Retract, AnyRetract}

-- a requirement of this path
abbrev pub requires_path : List ℕ → Directive → Bool
requires_path path (Requires p) = bytes_eq p.0 path
requires_path path _ = false

-- an exclusion of this pair
abbrev pub excludes_pair : ModuleVersion → Directive → Bool
excludes_pair pair (Excludes p) = pair_eq p pair
excludes_pair pair _ = false

-- a replace with exactly this left side
abbrev pub replaces_left : Left → Directive → Bool
replaces_left left (Replaces r) = is_same_left r.0 left
replaces_left left _ = false

-- Whether a replace with the first left side supersedes one with the other. A left side without a version applies to
-- all versions of its path, so it supersedes every left side with that path.
abbrev pub is_covered_by : Left → Option (List ℕ) → Left → Bool
is_covered_by left None other = bytes_eq other.path left.path
is_covered_by left (Some version) other = is_same_left other left

-- a replace that gives way to a new one with this left side
abbrev pub is_replaced_by : Left → Directive → Bool
is_replaced_by left (Replaces r) = is_covered_by left left.version r.0
is_replaced_by left _ = false

-- a retraction of exactly this interval
abbrev pub retracts_ends : VersionInterval → Directive → Bool
retracts_ends ends (Retracts e) = bytes_eq e.0 ends.0 && bytes_eq e.1 ends.1
retracts_ends ends _ = false

-- Whether an operation targets a directive. It changes or drops such directives, or does nothing if there is one
-- already.
abbrev pub about : Edit → Directive → Bool
about (Set (ModuleIs path)) d = is_module d
about (Set (GoIs text)) d = is_go d
about (Set (RequireAt p)) d = requires_path p.0 d
about (Drop (AnyRequire path)) d = requires_path path d
about (Add (Exclude p)) d = excludes_pair p d
about (Drop (AnyExclude p)) d = excludes_pair p d
about (Set (ReplaceWith r)) d = is_replaced_by r.0 d
about (Drop (AnyReplace left)) d = replaces_left left d
about (Add (Retract ends)) d = retracts_ends ends d
about (Drop (AnyRetract ends)) d = retracts_ends ends d
