-- A copy from crates/gm_name/specs/Element.antt, which tools/check/headline.py writes.
use Rattle.std.specs.Prelude.{ℕ, ◌-◌, ◌==◌, ◌&&◌, ◌||◌, not, nat_lt, Bool, List, length, codes, map, slice_index, take}
use Rattle.std.specs.Char.{is_ascii_alphanumeric, is_ascii_digit, to_ascii_lowercase}
use Rattle.std.specs.Int.{is_in_range}
use Rattle.std.specs.List.{before_first, list_all, slice_split, suffix_len}
use Rattle.std.specs.Str.{bytes_eq}

-- an ASCII letter or digit, '-', '.', '_' or '~'
abbrev pub is_path_byte : ℕ → Bool
is_path_byte b = is_ascii_alphanumeric b || b == 45 || b == 46 || b == 95 || b == 126

-- whether two texts are the same, ignoring the case of ASCII letters
abbrev pub eq_ignoring_case : List ℕ → List ℕ → Bool
eq_ignoring_case a b = bytes_eq (map to_ascii_lowercase a) (map to_ascii_lowercase b)

-- com1 to com9 and lpt1 to lpt9, in any case
abbrev pub is_numbered_device : List ℕ → Bool
is_numbered_device name = (length name == 4)
    && (eq_ignoring_case (take 3 name) (codes "com") || eq_ignoring_case (take 3 name) (codes "lpt"))
    && is_in_range 49 57 (slice_index name 3)

-- the names that Windows reserves for devices, in any case
unfoldable pub is_reserved : List ℕ → Bool
is_reserved name = eq_ignoring_case name (codes "con")
    || eq_ignoring_case name (codes "prn")
    || eq_ignoring_case name (codes "aux")
    || eq_ignoring_case name (codes "nul")
    || is_numbered_device name

-- how many digits are at the end of the name
abbrev pub digits_at_end : List ℕ → ℕ
digits_at_end name = suffix_len is_ascii_digit name

-- whether the name ends in a tilde and one or more digits, like the short names that Windows makes for long ones
unfoldable pub is_shortened : List ℕ → Bool
is_shortened name = nat_lt 0 (digits_at_end name)
    && nat_lt (digits_at_end name) (length name)
    && (slice_index name (length name - digits_at_end name - 1) == 126)

-- the part of an element before its first dot, or all of it
unfoldable pub stem : List ℕ → List ℕ
stem element = before_first (λ b. b == 46) element

-- whether a text begins or ends with a dot
unfoldable pub has_outer_dot : List ℕ → Bool
has_outer_dot text = (slice_index text 0 == 46) || (slice_index text (length text - 1) == 46)

-- whether a text is one or more path bytes, with no dot at either end
unfoldable pub is_dotted_name : List ℕ → Bool
is_dotted_name text = nat_lt 0 (length text) && list_all is_path_byte text && not (has_outer_dot text)

-- an element is a dotted name whose stem is neither reserved nor shortened
unfoldable pub is_element : List ℕ → Bool
is_element element = is_dotted_name element && not (is_reserved (stem element)) && not (is_shortened (stem element))

-- the pieces between the slashes of a text
abbrev pub elements : List ℕ → List (List ℕ)
elements text = slice_split (λ b. b == 47) text
