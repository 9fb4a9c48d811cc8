-- The three kinds of operations: one sets a directive, adds a directive, or drops directives (go help mod edit).
use Rattle.std.specs.Prelude.{Bool, true, false, Option, Some, None}
use Rattle.gm_name.specs.Names.{does_fit}
use Rattle.gm_file.specs.Directives.{Directive, DeclaresModule, DeclaresGo, Requires, Excludes, Replaces, Retracts}
use Rattle.gm_file.specs.Faults.{does_left_fit}
use Rattle.gm_file_edit.specs.Edits.{Edit, Set, Add, Drop, Setting, ModuleIs, GoIs, RequireAt, ReplaceWith, Addition, Exclude, Retract}

-- whether an operation drops the directives that it targets
abbrev pub is_drop : Edit → Bool
is_drop (Set s) = false
is_drop (Add a) = false
is_drop (Drop t) = true

-- the directive that a setting sets
abbrev pub directive_set : Setting → Directive
directive_set (ModuleIs path) = DeclaresModule path
directive_set (GoIs text) = DeclaresGo text
directive_set (RequireAt p) = Requires p
directive_set (ReplaceWith r) = Replaces r

-- the directive that an operation sets, instead of all that it targets
abbrev pub set_by : Edit → Option Directive
set_by (Set s) = Some (directive_set s)
set_by (Add a) = None
set_by (Drop t) = None

-- the directive that an addition adds
abbrev pub directive_added : Addition → Directive
directive_added (Exclude p) = Excludes p
directive_added (Retract ends) = Retracts ends

-- the directive that an operation adds if none is targeted
abbrev pub added_by : Edit → Option Directive
added_by (Set s) = None
added_by (Add a) = Some (directive_added a)
added_by (Drop t) = None

-- Whether the versions of an operation fit their paths: those that it requires or excludes, and the one in the left
-- side of its replace. The right side of a replace isn't checked.
abbrev pub is_fit : Edit → Bool
is_fit (Set (RequireAt p)) = does_fit p.0 p.1
is_fit (Set (ReplaceWith r)) = does_left_fit r.0.path r.0.version
is_fit (Add (Exclude p)) = does_fit p.0 p.1
is_fit _ = true
