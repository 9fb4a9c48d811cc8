-- Which texts can be one bare word, as a test that computes, and the word that an edit makes from a text.
use Rattle.std.specs.Prelude.{length, ℕ, suc, ◌==◌, ◌||◌, ◌&&◌, Bool, false, not, List, [], ◌∷◌, ◌++◌, if◌then◌else◌}
use Rattle.gm_syntax_words.specs.declared.word.Kind.TheVariants.{Bare, Text}
use Rattle.gm_syntax_words.specs.Bytes.{is_word_byte}
use Rattle.gm_syntax_words.specs.Words.{Word, escaped_value}

-- the text begins with this byte
abbrev pub begins : ℕ → List ℕ → Bool
begins b [] = false
begins b (c ∷ bytes) = c == b

-- the text begins with // or /*
abbrev pub opens_comment : List ℕ → Bool
opens_comment [] = false
opens_comment (b ∷ bytes) = (b == 47) && (begins 47 bytes || begins 42 bytes)

-- the text begins with =>
abbrev pub begins_arrow : List ℕ → Bool
begins_arrow [] = false
begins_arrow (b ∷ bytes) = (b == 61) && begins 62 bytes

-- how many bytes from the start a bare word takes: bytes that it may have, up to // or /*
unfoldable pub bare_len : List ℕ → ℕ
bare_len [] = 0
bare_len (b ∷ bytes) = if is_word_byte b && not (opens_comment (b ∷ bytes)) then suc (bare_len bytes) else 0

-- the text can be one bare word, as IsBare states it: it is not empty, does not begin with =>, and a bare word
-- takes all of it
unfoldable pub can_be_bare : List ℕ → Bool
can_be_bare bytes = not (length bytes == 0) && (not (begins_arrow bytes) && (bare_len bytes == length bytes))

-- the value in quotes
abbrev pub in_quotes : List ℕ → List ℕ
in_quotes value = 34 ∷ (escaped_value value ++ 34 ∷ [])

-- the word that an edit makes for a value: bare if possible, otherwise in quotes
abbrev pub new_word : List ℕ → Word
new_word value = if can_be_bare value then record { kind = Bare; spelling = value }
    else record { kind = Text; spelling = in_quotes value }
