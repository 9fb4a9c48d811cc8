-- A copy from crates/gm_name/specs/Lines.antt, which tools/check/headline.py writes.
use Rattle.std.specs.Prelude.{ℕ, ◌==◌, ◌||◌, nat_lt, Bool, List, drop, length}
use Rattle.std.specs.List.{before_first, filter, prefix_len, slice_split}

-- space, tab or CR
abbrev pub is_blank_byte : ℕ → Bool
is_blank_byte b = b == 32 || b == 9 || b == 13

-- LF
abbrev pub is_line_end : ℕ → Bool
is_line_end b = b == 10

-- the pieces between LFs. A text that ends in LF has an empty last piece, which is no line but has no word either.
abbrev pub lines : List ℕ → List (List ℕ)
lines text = slice_split is_line_end text

-- a line without the blanks at its start
abbrev pub after_blanks : List ℕ → List ℕ
after_blanks line = drop (prefix_len is_blank_byte line) line

-- the first word of a line: its first run of bytes that aren't blanks, or the empty list if there is none
abbrev pub first_word : List ℕ → List ℕ
first_word line = before_first is_blank_byte (after_blanks line)

-- the fields of a line: all its words, in order
abbrev pub fields : List ℕ → List (List ℕ)
fields line = filter (λ word. nat_lt 0 (length word)) (slice_split is_blank_byte line)
