-- A copy from crates/gm_version/specs/Escape.antt, which tools/check/headline.py writes.
use Rattle.std.specs.Prelude.{ℕ, ◌+◌, if◌then◌else◌, List, [], ◌∷◌}
use Rattle.std.specs.Char.{is_ascii_uppercase}
use Rattle.std.specs.List.{flat_map}

-- the escaped form of a byte: '!' and the lower-case letter for an upper-case letter, and the byte itself otherwise
abbrev pub escaped_byte : ℕ → List ℕ
escaped_byte b = if is_ascii_uppercase b then 33 ∷ (b + 32) ∷ [] else b ∷ []

-- the escaped text
abbrev pub escaped_text : List ℕ → List ℕ
escaped_text text = flat_map escaped_byte text
