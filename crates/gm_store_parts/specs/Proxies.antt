-- Proxy lists: their text, and their folders and marks.
use Rattle.std.specs.Prelude.{ℕ, ◌==◌, ◌&&◌, ◌||◌, not, nat_lt, Bool, List, length, map, codes, if◌then◌else◌}
use Rattle.std.specs.List.{filter, slice_split}
use Rattle.std.specs.Str.{bytes_eq}
use Rattle.std.specs.String.{string_bytes}
use Rattle.gm_store_parts.specs.declared.fallback.proxy_list.Mark.{Mark}
use Rattle.gm_store_parts.specs.declared.fallback.proxy_list.Mark.TheVariants.{Comma, Bar}
use Rattle.gm_store_parts.specs.declared.fallback.proxy_list.ProxyList.{ProxyList}

-- ---- the text of a proxy list

-- a ',' or a '|', which separate folders
abbrev pub is_proxy_mark : ℕ → Bool
is_proxy_mark b = b == 44 || b == 124

-- the mark that a separator byte stands for
abbrev pub mark_at_byte : ℕ → Mark
mark_at_byte b = if b == 44 then Comma else Bar

-- a folder's text: not empty, and none of the words that the go command reserves for other sources
abbrev pub is_folder : List ℕ → Bool
is_folder text = nat_lt 0 (length text) && not (bytes_eq text (codes "direct")) && not (bytes_eq text (codes "off"))

-- the folders that a text names: the parts between its marks
abbrev pub folders_of : List ℕ → List (List ℕ)
folders_of value = slice_split is_proxy_mark value

-- the marks of a text, in order
abbrev pub marks_of : List ℕ → List Mark
marks_of value = map mark_at_byte (filter is_proxy_mark value)

-- the folders of a parsed list, and its marks
abbrev pub folders_in : ProxyList → List (List ℕ)
folders_in list = map string_bytes list.folders.items

abbrev pub marks_in : ProxyList → List Mark
marks_in list = list.marks.items
