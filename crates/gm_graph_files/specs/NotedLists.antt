-- The places that are noted for lists, so that those of eight or more are kept once.
use Rattle.std.specs.Prelude.{◌≡◌, ◌≤◌, ◌*◌, ◌%◌, ◌∷◌, [], ℕ, List, Option, Some, bit_xor, length}
use Rattle.std.specs.BTreeMap.{get_by}
use Rattle.std.specs.Cmp.Lexicographic.{slice_cmp}
use Rattle.std.specs.Int.{rotate_left, w32}
use Rattle.std.specs.Option.{option_or}
use Rattle.std.specs.Ordering.{nat_cmp}
use Rattle.gm_name_table.specs.TagIndex.{place_under}
use Rattle.gm_graph_files.specs.declared.list_index.ListIndex.{ListIndex}

-- the tag of a list that follows numbers with this tag
abbrev pub list_tag : ℕ → List ℕ → ℕ
list_tag tag [] = tag
list_tag tag (number ∷ list) = list_tag (bit_xor (rotate_left w32 tag 5) number * 2654435761 % 4294967296) list

-- the place that is noted for a list: under the list, or else under its tag
abbrev pub place_for : ListIndex → List ℕ → Option ℕ
place_for index list = option_or (get_by (λ key. slice_cmp nat_cmp list key.items) index.others)
    (place_under index.by_tag (list_tag 0 list))

-- The place of each list of eight or more is noted for it.
abbrev pub NotesAll : ListIndex → (ℕ → List ℕ) → Type 0
NotesAll index lists = (place : ℕ) → 8 ≤ length (lists place) → place_for index (lists place) ≡ Some place
