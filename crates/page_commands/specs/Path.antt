-- A copy from crates/gm_name/specs/Path.antt, which tools/check/headline.py writes.
use Rattle.std.specs.Prelude.{◌≡◌, ℕ, ◌^◌, ◌<◌, ◌≤◌, ◌==◌, ◌||◌, ◌⊎◌, Bool, true, List, ◌++◌, length, codes, ◌&&◌, not, slice_index}
use Rattle.std.specs.Char.{is_ascii_digit, is_ascii_lowercase}
use Rattle.std.specs.Fmt.{decimal}
use Rattle.std.specs.List.{before_first, join_with_byte, list_all, list_any}
use Rattle.page_commands.specs.Element.{is_element}
use Rattle.page_commands.specs.Types.Major.{Major, NoSuffix, Slash, Dot}

-- the text ends in the mark followed by the number
abbrev pub EndsInNumber : List ℕ → List ℕ → ℕ → Type 0
EndsInNumber text mark n = (front : List ℕ) × (text ≡ front ++ mark ++ decimal n)

-- the text begins with `gopkg.in/`
abbrev pub IsUnderGopkg : List ℕ → Type 0
IsUnderGopkg text = (rest : List ℕ) × (text ≡ codes "gopkg.in/" ++ rest)

-- the text ends in `.vN`, or in `.vN-unstable` for N above 0
abbrev pub EndsInDotNumber : List ℕ → ℕ → Type 0
EndsInDotNumber text n = EndsInNumber text (codes ".v") n
    ⊎ ((0 < n) × (stable : List ℕ) × (text ≡ stable ++ codes "-unstable") × EndsInNumber stable (codes ".v") n)

-- a digit or a dot
abbrev pub is_digit_or_dot : ℕ → Bool
is_digit_or_dot b = is_ascii_digit b || b == 46

-- the text ends in `/v` and one or more digits or dots
abbrev pub EndsInSlashVersion : List ℕ → Type 0
EndsInSlashVersion text = (front tail : List ℕ) × (text ≡ front ++ codes "/v" ++ tail)
    × (0 < length tail) × (list_all is_digit_or_dot tail ≡ true)

-- the major version that a path names. Every path under `gopkg.in` names one. Elsewhere digits or dots after
-- `/v` at the end must be a number of at least 2, and a path without this ending has no suffix.
abbrev pub HasMajor : List ℕ → Major → Type 0
HasMajor text (Dot n) = IsUnderGopkg text × (n < 2 ^ 64) × EndsInDotNumber text n
HasMajor text (Slash n) = ¬ (IsUnderGopkg text) × (2 ≤ n) × (n < 2 ^ 64) × EndsInNumber text (codes "/v") n
HasMajor text NoSuffix = ¬ (IsUnderGopkg text) × ¬ (EndsInSlashVersion text)

-- a module path: elements joined by slashes, with an ending that names a major version or has no suffix
pub record IsPath (text : List ℕ) : Type 0 where
  pub elements : List (List ℕ)
  pub some : 0 < length elements
  pub joined : text ≡ join_with_byte 47 elements
  pub each : list_all is_element elements ≡ true
  pub named : (major : Major) × HasMajor text major

-- a byte of a host name: a lower-case letter, a digit, '-' or '.'
abbrev pub is_host_byte : ℕ → Bool
is_host_byte b = is_ascii_lowercase b || is_ascii_digit b || b == 45 || b == 46

-- the text before the first slash, or all of it
abbrev pub first_element : List ℕ → List ℕ
first_element text = before_first (λ b. b == 47) text

-- whether a proxy may have the module of a path: its first element is a host name, with a dot and no leading dash
unfoldable pub is_fetchable : List ℕ → Bool
is_fetchable text = list_all is_host_byte (first_element text)
    && list_any (λ b. b == 46) (first_element text)
    && not (slice_index (first_element text) 0 == 45)
