-- A copy from crates/gm_store/specs/Relative.antt, which tools/check/headline.py writes.
use Rattle.std.specs.Prelude.{ℕ, ◌==◌, ◌&&◌, nat_lt, Bool, List, ◌++◌, length, codes, slice_index, ◌-◌, if◌then◌else◌}
use Rattle.page_commands.specs.Escape.{escaped_text}
use Rattle.page_commands.specs.Asked.{Name, mod_file, folder_file, list_file}

-- the separator of path elements
abbrev pub is_slash : ℕ → Bool
is_slash b = b == 47

-- whether a text ends in a slash
abbrev pub ends_in_slash : List ℕ → Bool
ends_in_slash text = nat_lt 0 (length text) && is_slash (slice_index text (length text - 1))

-- a path below a folder, with a slash in between unless the folder's text ends in one
abbrev pub below : List ℕ → List ℕ → List ℕ
below folder text = folder ++ (if ends_in_slash folder then text else codes "/" ++ text)

-- the path of a file: of a module's file below a proxy folder, of a local folder's go.mod as `replace` names the
-- folder
abbrev pub relative_text : Name → List ℕ
relative_text (mod_file path version) = escaped_text path ++ codes "/@v/" ++ escaped_text version ++ codes ".mod"
relative_text (list_file path) = escaped_text path ++ codes "/@v/list"
relative_text (folder_file text) = below text (codes "go.mod")
