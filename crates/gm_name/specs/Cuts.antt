-- The first word of a line with the rest, and lists of words.
use Rattle.std.specs.Prelude.{◌≡◌, ◌++◌, ℕ, true, false, List, [], ◌∷◌}
use Rattle.std.specs.List.{list_all, list_any}
use Rattle.gm_name.specs.Lines.{is_blank_byte}

-- the text is empty or begins with a blank
abbrev pub EndsWord : List ℕ → Type 0
EndsWord [] = Unit {0}
EndsWord (b ∷ rest) = is_blank_byte b ≡ true

-- The line is blanks, then a word, which has no blank, and then a rest that is empty or begins with a blank. The
-- word is empty only if the line has blanks alone.
pub record IsCut (line word rest : List ℕ) : Type 0 where
  pub blanks : List ℕ
  pub parts : line ≡ blanks ++ (word ++ rest)
  pub are_blank : list_all is_blank_byte blanks ≡ true
  pub is_word : list_any is_blank_byte word ≡ false
  pub ends_word : EndsWord rest
  pub all_blank : word ≡ [] → rest ≡ []

-- a word in front of other words; an empty word isn't put there
abbrev pub prepend_word : List ℕ → List (List ℕ) → List (List ℕ)
prepend_word [] words = []
prepend_word (b ∷ word) words = (b ∷ word) ∷ words
