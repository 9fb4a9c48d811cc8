-- A copy from crates/gm_store_sums/specs/Sums.antt, which tools/check/headline.py writes.
use Rattle.std.specs.Prelude.{◌≡◌, ◌≢◌, ◌<◌, ◌≤◌, ◌+◌, ℕ, ◌&&◌, not, nat_eq, Bool, true, false, List, [], ◌∷◌, ◌++◌, length, map, codes, Contains, if◌then◌else◌}
use Rattle.std.specs.List.{list_any, position_or_len, starts_with}
use Rattle.std.specs.Str.{bytes_eq, is_utf8}
use Rattle.page_commands.specs.Types.Sum.{Sum, Good, Unlisted, Differs}
use Rattle.page_commands.specs.GmNameLines.{fields, lines}

-- a line is valid if it has no fields, or three of UTF-8
abbrev pub are_valid_fields : List (List ℕ) → Bool
are_valid_fields [] = true
are_valid_fields (path ∷ version ∷ hash ∷ []) = is_utf8 path && is_utf8 version && is_utf8 hash
are_valid_fields _ = false

-- how many lines come before the first invalid line, or the number of lines if all are valid
abbrev pub lines_before_invalid : List ℕ → ℕ
lines_before_invalid text = position_or_len (λ line. not (are_valid_fields (fields line))) (lines text)

-- the text has no invalid line
abbrev pub HasValidLines : List ℕ → Type 0
HasValidLines text = length (lines text) ≤ lines_before_invalid text

-- the line of this number, counted from 1, is the first invalid one
abbrev pub IsFirstInvalid : List ℕ → ℕ → Type 0
IsFirstInvalid text number = (lines_before_invalid text < length (lines text))
    × (number ≡ lines_before_invalid text + 1)

-- some line of the text lists this hash for the go.mod of a module at a version; hashes of other kinds are skipped
pub record IsSum (text path version hash : List ℕ) : Type 0 where
  pub line : Contains (map fields (lines text)) (path ∷ (version ++ codes "/go.mod") ∷ hash ∷ [])
  pub kind : starts_with nat_eq hash (codes "h1:") ≡ true

-- what the text says about a hash: `Unlisted` if it lists none, `Differs` if it lists another, even in addition
-- to this one
abbrev pub SaysOfHash : List ℕ → List ℕ → List ℕ → List ℕ → Sum → Type 0
SaysOfHash text path version hash Unlisted = (other : List ℕ) → ¬ (IsSum text path version other)
SaysOfHash text path version hash Differs = (other : List ℕ) × IsSum text path version other × (other ≢ hash)
SaysOfHash text path version hash Good = IsSum text path version hash
    × ((other : List ℕ) → IsSum text path version other → other ≡ hash)

-- the lines of a table: a module's path, its version without "/go.mod", and a hash of its go.mod
abbrev pub Sums : Type 0
Sums = List (List ℕ × List ℕ × List ℕ)

abbrev pub is_line_for : List ℕ → List ℕ → List ℕ × List ℕ × List ℕ → Bool
is_line_for path version line = bytes_eq line.0 path && bytes_eq line.1 version

-- a line for this path and version with another hash
abbrev pub is_other_hash : List ℕ → List ℕ → List ℕ → List ℕ × List ℕ × List ℕ → Bool
is_other_hash path version hash line = is_line_for path version line && not (bytes_eq line.2 hash)

-- what a table says about this hash of a module's go.mod
abbrev pub check_in : Sums → List ℕ → List ℕ → List ℕ → Sum
check_in sums path version hash = if not (list_any (is_line_for path version) sums) then Unlisted
    else (if list_any (is_other_hash path version hash) sums then Differs else Good)
