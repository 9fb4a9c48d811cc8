-- A copy from crates/gm_file_edit/specs/Kinds.antt, which tools/check/headline.py writes.
use Rattle.std.specs.Prelude.{Bool, true}
use Rattle.page_commands.specs.Names.{does_fit}
use Rattle.page_commands.specs.Faults.{does_left_fit}
use Rattle.page_commands.specs.Edits.{Edit, Set, Add, RequireAt, ReplaceWith, Exclude}

-- Whether the versions of an operation fit their paths: those that it requires or excludes, and the one in the left
-- side of its replace. The right side of a replace isn't checked.
abbrev pub is_fit : Edit → Bool
is_fit (Set (RequireAt p)) = does_fit p.0 p.1
is_fit (Set (ReplaceWith r)) = does_left_fit r.0.path r.0.version
is_fit (Add (Exclude p)) = does_fit p.0 p.1
is_fit _ = true
