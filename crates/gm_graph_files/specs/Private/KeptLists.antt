-- What only the index of lists says of a list.
use Rattle.std.specs.Prelude.{ℕ, List, length}
use Rattle.gm_name_table.specs.Listed.{NumberedList, part}

-- the numbers of the modules from a place of the list on
abbrev pub numbers_from : ℕ → NumberedList → List ℕ
numbers_from start list = part start (length list.numbers) list.numbers
