-- A copy from crates/gm_file/specs/Faults.antt, which tools/check/headline.py writes.
use Rattle.std.specs.Prelude.{ℕ, ◌&&◌, Bool, true, false, List, Option, Some, None}
use Rattle.std.specs.Str.{bytes_eq}
use Rattle.page.specs.Directives.{Left}

abbrev pub is_same_version : Option (List ℕ) → Option (List ℕ) → Bool
is_same_version None None = true
is_same_version None (Some w) = false
is_same_version (Some v) None = false
is_same_version (Some v) (Some w) = bytes_eq v w

abbrev pub is_same_left : Left → Left → Bool
is_same_left a b = bytes_eq a.path b.path && is_same_version a.version b.version
