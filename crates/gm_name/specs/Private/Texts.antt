-- Parts of names while they are read.
use Rattle.std.specs.Prelude.{ℕ, ◌==◌, ◌&&◌, not, Bool, List, [], ◌++◌, ◌≡◌, ◌⊎◌, codes}
use Rattle.gm_name.specs.Element.{is_path_byte}

-- a byte of an element before its first dot
abbrev pub is_stem_byte : ℕ → Bool
is_stem_byte b = is_path_byte b && not (b == 46)

-- the text is empty or ends in a dot, as any text before the time does
abbrev pub EndsInDotOrIsEmpty : List ℕ → Type 0
EndsInDotOrIsEmpty front = (front ≡ []) ⊎ ((begin : List ℕ) × (front ≡ begin ++ codes "."))
