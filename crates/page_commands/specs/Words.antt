-- A copy from crates/gm_syntax_words/specs/Words.antt, which tools/check/headline.py writes.
use Rattle.std.specs.Prelude.{ℕ, ◌==◌, ◌||◌, List, [], ◌∷◌, if◌then◌else◌, Bool, true, false}
use Rattle.std.specs.List.{flat_map}
use Rattle.page_commands.specs.Types.Kind.{Kind, Bare, Text, Mark}
use Rattle.page_commands.specs.Types.Punct.{Punct, LeftParen, RightParen, LeftBracket, RightBracket, Comma, Arrow}

-- a word, apart from its position in the source
pub record Word : Type 0 where
  pub kind : Kind
  pub spelling : List ℕ

-- the text with a backslash before each quote and each backslash
abbrev pub escaped_value : List ℕ → List ℕ
escaped_value value = flat_map (λ b. if (b == 34) || (b == 92) then 92 ∷ b ∷ [] else b ∷ []) value

-- the spelling of a punctuation word
abbrev pub mark_text : Punct → List ℕ
mark_text LeftParen = 40 ∷ []
mark_text RightParen = 41 ∷ []
mark_text LeftBracket = 91 ∷ []
mark_text RightBracket = 93 ∷ []
mark_text Comma = 44 ∷ []
mark_text Arrow = 61 ∷ 62 ∷ []

abbrev pub is_mark_byte : ℕ → Kind → List ℕ → Bool
is_mark_byte b Mark (c ∷ []) = c == b
is_mark_byte b kind text = false

-- the word is the punctuation of this one byte
abbrev pub is_mark : ℕ → Word → Bool
is_mark b w = is_mark_byte b w.kind w.spelling

abbrev pub is_bare : Kind → Bool
is_bare Bare = true
is_bare Text = false
is_bare Mark = false
