-- Go versions: N.M or N.M.P, which lower-case letters and digits may follow, as in `1.21rc1` (Go Modules Reference, go
-- directive; Go Toolchains, Go versions).
use Rattle.std.specs.Prelude.{ℕ, ◌==◌, ◌&&◌, ◌||◌, nat_lt, if◌then◌else◌, Bool, List, length, drop, slice_index, Option, Some, None, is_some, take_while}
use Rattle.std.specs.Char.{is_ascii_digit, is_ascii_lowercase}
use Rattle.std.specs.List.{after_first, before_first, list_all, list_any}
use Rattle.std.specs.Str.Parse.{digits_value}
use Rattle.gm_version.specs.Number.{is_decimal}
use Rattle.gm_file.specs.Values.{both}

-- the number that one to nine digits without leading zeros spell
unfoldable pub small_number : List ℕ → Option ℕ
small_number text =
    if is_decimal text && nat_lt (digits_value 10 text) 1000000000 then Some (digits_value 10 text) else None

-- the first number of a go version, which is not 0
unfoldable pub first_number : List ℕ → Option ℕ
first_number text = if slice_index text 0 == 48 then None else small_number text

-- empty, or lower-case letters and then digits, at least one of each
unfoldable pub is_go_suffix : List ℕ → Bool
is_go_suffix text = (length text == 0)
    || (let letters = take_while is_ascii_lowercase text in
    nat_lt 0 (length letters) && nat_lt (length letters) (length text)
    && list_all is_ascii_digit (drop (length letters) text))

-- the number before a suffix, which may be empty
unfoldable pub last_number : List ℕ → Option ℕ
last_number text = let digits = take_while is_ascii_digit text in
    if is_go_suffix (drop (length digits) text) then small_number digits else None

abbrev pub has_dot : List ℕ → Bool
has_dot text = list_any (λ b. b == 46) text

-- the text before the first dot, or all of it without a dot
abbrev pub before_dot : List ℕ → List ℕ
before_dot text = before_first (λ b. b == 46) text

-- the text after the first dot, or nothing without a dot
abbrev pub after_dot : List ℕ → List ℕ
after_dot text = after_first (λ b. b == 46) text

-- M of `M` or `M.P`, where a suffix may follow the last number
unfoldable pub second_number : List ℕ → Option ℕ
second_number text = if has_dot text
    then (if is_some (last_number (after_dot text)) then small_number (before_dot text) else None)
    else last_number text

abbrev pub numbers : ℕ → ℕ → ℕ × ℕ
numbers n m = (n, m)

-- the first two numbers of a go version in a main file
unfoldable pub strict_go : List ℕ → Option (ℕ × ℕ)
strict_go text = both numbers (first_number (before_dot text)) (second_number (after_dot text))

-- N and M, which any text that doesn't begin with a digit may follow
unfoldable pub lax_go_text : List ℕ → Option (ℕ × ℕ)
lax_go_text text =
    both numbers (first_number (before_dot text)) (small_number (take_while is_ascii_digit (after_dot text)))

-- the first two numbers of a go version in a dependency's file, where a `v` may precede it
unfoldable pub lax_go : List ℕ → Option (ℕ × ℕ)
lax_go text = lax_go_text (if slice_index text 0 == 118 then drop 1 text else text)
