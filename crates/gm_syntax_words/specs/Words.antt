-- Words: their kinds, shapes and values.
use Rattle.std.specs.Prelude.{◌≡◌, ◌≢◌, ℕ, ◌==◌, ◌||◌, List, [], ◌∷◌, ◌++◌, IsTrue, if◌then◌else◌, ⊤, ◌⊎◌, Bool, true, false}
use Rattle.std.specs.List.{flat_map, AllByRecursion}
use Rattle.gm_syntax_words.specs.declared.word.Kind.{Kind}
use Rattle.gm_syntax_words.specs.declared.word.Kind.TheVariants.{Bare, Text, Mark}
use Rattle.gm_syntax_words.specs.declared.word.Punct.{Punct}
use Rattle.gm_syntax_words.specs.declared.word.Punct.TheVariants.{LeftParen, RightParen, LeftBracket, RightBracket, Comma, Arrow}
use Rattle.gm_syntax_words.specs.Bytes.{is_blank, is_bracket_or_comma, is_word_byte}

-- a word, apart from its position in the source
pub record Word : Type 0 where
  pub kind : Kind
  pub spelling : List ℕ

abbrev pub AllBlank : List ℕ → Type 0
AllBlank bytes = AllByRecursion (λ b. IsTrue (is_blank b)) bytes

-- // or /*
abbrev pub OpensComment : ℕ → ℕ → Type 0
OpensComment a b = (a ≡ 47) × ((b ≡ 47) ⊎ (b ≡ 42))

-- the text contains neither // nor /*
abbrev pub HoldsNoComment : List ℕ → Type 0
HoldsNoComment [] = ⊤
HoldsNoComment (a ∷ []) = ⊤
HoldsNoComment (a ∷ b ∷ bytes) = ¬ OpensComment a b × HoldsNoComment (b ∷ bytes)

abbrev pub BeginsWithArrow : List ℕ → Type 0
BeginsWithArrow text = (rest : List ℕ) × (text ≡ 61 ∷ 62 ∷ rest)

-- a bare word
pub record IsBare (text : List ℕ) : Type 0 where
  pub filled : text ≢ []
  pub word_bytes : AllByRecursion (λ b. IsTrue (is_word_byte b)) text
  pub no_comment : HoldsNoComment text
  pub no_arrow : ¬ BeginsWithArrow text

-- the text with a backslash before each quote and each backslash
abbrev pub escaped_value : List ℕ → List ℕ
escaped_value value = flat_map (λ b. if (b == 34) || (b == 92) then 92 ∷ b ∷ [] else b ∷ []) value

abbrev pub HasNoGrave : List ℕ → Type 0
HasNoGrave value = AllByRecursion (λ b. b ≢ 96) value

-- a string with this value, in quotes or in grave accents
abbrev pub IsString : List ℕ → List ℕ → Type 0
IsString text value = (text ≡ 34 ∷ (escaped_value value ++ 34 ∷ []))
    ⊎ ((text ≡ 96 ∷ (value ++ 96 ∷ [])) × HasNoGrave value)

-- ( ) [ ] , or =>
abbrev pub IsMark : List ℕ → Type 0
IsMark text = ((b : ℕ) × IsTrue (is_bracket_or_comma b) × (text ≡ b ∷ [])) ⊎ (text ≡ 61 ∷ 62 ∷ [])

-- the text has a shape of this kind, and this value
abbrev pub HasShape : Kind → List ℕ → List ℕ → Type 0
HasShape Bare text value = IsBare text × (value ≡ text)
HasShape Text text value = IsString text value
HasShape Mark text value = IsMark text × (value ≡ text)

abbrev pub HasValue : Word → List ℕ → Type 0
HasValue w value = HasShape w.kind w.spelling value

-- the word has a shape of its kind
abbrev pub IsShaped : Word → Type 0
IsShaped w = (value : List ℕ) × HasValue w value

-- the spelling of a punctuation word
abbrev pub mark_text : Punct → List ℕ
mark_text LeftParen = 40 ∷ []
mark_text RightParen = 41 ∷ []
mark_text LeftBracket = 91 ∷ []
mark_text RightBracket = 93 ∷ []
mark_text Comma = 44 ∷ []
mark_text Arrow = 61 ∷ 62 ∷ []

abbrev pub is_mark_byte : ℕ → Kind → List ℕ → Bool
is_mark_byte b Mark (c ∷ []) = c == b
is_mark_byte b kind text = false

-- the word is the punctuation of this one byte
abbrev pub is_mark : ℕ → Word → Bool
is_mark b w = is_mark_byte b w.kind w.spelling

abbrev pub is_bare : Kind → Bool
is_bare Bare = true
is_bare Text = false
is_bare Mark = false
