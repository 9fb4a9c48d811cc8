-- A copy from crates/gm_name/specs/Path.antt, which tools/check/headline.py writes.
use Rattle.std.specs.Prelude.{ℕ, ◌==◌, ◌||◌, Bool, List, ◌&&◌, not, slice_index}
use Rattle.std.specs.Char.{is_ascii_digit, is_ascii_lowercase}
use Rattle.std.specs.List.{before_first, list_all, list_any}

-- a byte of a host name: a lower-case letter, a digit, '-' or '.'
abbrev pub is_host_byte : ℕ → Bool
is_host_byte b = is_ascii_lowercase b || is_ascii_digit b || b == 45 || b == 46

-- the text before the first slash, or all of it
abbrev pub first_element : List ℕ → List ℕ
first_element text = before_first (λ b. b == 47) text

-- whether a proxy may have the module of a path: its first element is a host name, with a dot and no leading dash
unfoldable pub is_fetchable : List ℕ → Bool
is_fetchable text = list_all is_host_byte (first_element text)
    && list_any (λ b. b == 46) (first_element text)
    && not (slice_index (first_element text) 0 == 45)
