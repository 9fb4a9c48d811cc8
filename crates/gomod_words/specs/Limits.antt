-- How many rows are asked for.
use Rattle.std.specs.Prelude.{ℕ, ◌&&◌, ◌^◌, nat_lt, if◌then◌else◌, List, Option, Some, None}
use Rattle.std.specs.Char.{is_ascii_digit}
use Rattle.std.specs.List.{list_all}
use Rattle.std.specs.Str.Parse.{digits_value}

-- the number of rows that a text stands for, if it is one or more ASCII digits that form a number from 1 to
-- 4,294,967,295
unfoldable pub limit_of : List ℕ → Option ℕ
limit_of text =
    if list_all is_ascii_digit text && (nat_lt 0 (digits_value 10 text) && nat_lt (digits_value 10 text) (2 ^ 32))
    then Some (digits_value 10 text) else None
