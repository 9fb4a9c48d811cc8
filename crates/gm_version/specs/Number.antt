-- Numbers as texts: decimal digits without a leading zero, below 2 ^ 64.
use Rattle.std.specs.Prelude.{◌≡◌, ◌^◌, ◌<◌, ℕ, Bool, List, length, slice_index, nat_lt, ◌==◌, ◌&&◌, ◌||◌, not}
use Rattle.std.specs.Char.{is_ascii_digit}
use Rattle.std.specs.Fmt.{decimal}
use Rattle.std.specs.List.{list_all}

-- whether the text is empty, or begins with a plus sign or with a zero before more digits
abbrev pub starts_as_no_number : List ℕ → Bool
starts_as_no_number text = (length text == 0)
    || (slice_index text 0 == 43)
    || ((slice_index text 0 == 48) && nat_lt 1 (length text))

-- one or more digits without a leading zero
abbrev pub is_decimal : List ℕ → Bool
is_decimal text = not (starts_as_no_number text) && list_all is_ascii_digit text

-- the text is the decimal form of the number
abbrev pub IsNumber : List ℕ → ℕ → Type 0
IsNumber text n = (n < 2 ^ 64) × (text ≡ decimal n)
