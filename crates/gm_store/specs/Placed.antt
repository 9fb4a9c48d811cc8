-- Paths of files in a file system: which path a lookup opens.
use Rattle.std.specs.Prelude.{ℕ, ◌&&◌, nat_lt, Bool, List, [], length, slice_index, slice_index_or, if◌then◌else◌}
use Rattle.gm_store_parts.specs.Asked.{Name, folder_file, list_file, mod_file}
use Rattle.gm_store.specs.Relative.{below, is_slash, relative_text}

-- whether a path is absolute: it begins with a slash
abbrev pub is_absolute : List ℕ → Bool
is_absolute text = nat_lt 0 (length text) && is_slash (slice_index text 0)

-- where a path that is relative leads to: that of a module's file below proxy folder number k, that of the go.mod of a
-- local folder below the main file's folder, unless the local folder's text is absolute
abbrev pub placed_text : List ℕ → List (List ℕ) → ℕ → Name → List ℕ → List ℕ
placed_text main proxies k (mod_file path version) text = below (slice_index_or proxies k []) text
placed_text main proxies k (list_file path) text = below (slice_index_or proxies k []) text
placed_text main proxies k (folder_file folder) text = if is_absolute folder then text else below main text

-- the path that is opened
abbrev pub lookup_path_text : List ℕ → List (List ℕ) → ℕ → Name → List ℕ
lookup_path_text main proxies k name = placed_text main proxies k name (relative_text name)
