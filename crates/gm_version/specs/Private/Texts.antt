-- Parts of escaped names while they are read or written.
use Rattle.std.specs.Prelude.{ℕ, Bool, ◌+◌, if◌then◌else◌, List, [], ◌∷◌, ◌++◌}
use Rattle.std.specs.Char.{encode_utf8, is_ascii_uppercase}
use Rattle.gm_version.specs.Escape.{escaped_text}

-- what stands for a character, given by its code point, in an escaped text
abbrev pub escaped_char : ℕ → List ℕ
escaped_char c = if is_ascii_uppercase c then 33 ∷ (c + 32) ∷ [] else encode_utf8 c

-- the part of an escaped text that gave `text` when read; `after_bang` says whether it ends in a '!' that is
-- still to be completed
abbrev pub read_so_far : List ℕ → Bool → List ℕ
read_so_far text after_bang = escaped_text text ++ (if after_bang then 33 ∷ [] else [])
