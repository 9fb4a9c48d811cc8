-- A copy from crates/gm_syntax_words/specs/Bytes.antt, which tools/check/headline.py writes.
use Rattle.std.specs.Prelude.{ℕ, Bool, ◌==◌, ◌||◌, ◌&&◌, nat_lt, not}

-- space, tab or carriage return
unfoldable pub is_blank : ℕ → Bool
is_blank b = (b == 32) || ((b == 9) || (b == 13))

-- ( ) [ ] ,
unfoldable pub is_bracket_or_comma : ℕ → Bool
is_bracket_or_comma b = (b == 40) || ((b == 41) || ((b == 91) || ((b == 93) || (b == 44))))

-- " and the grave accent
unfoldable pub is_quote : ℕ → Bool
is_quote b = (b == 34) || (b == 96)

-- a control byte other than blanks, or { or }
unfoldable pub is_bad : ℕ → Bool
is_bad b = (nat_lt b 32 && not ((b == 9) || (b == 13))) || ((b == 127) || ((b == 123) || (b == 125)))

-- any other byte may be in a bare word
unfoldable pub is_word_byte : ℕ → Bool
is_word_byte b = not (is_blank b || (is_bracket_or_comma b || (is_quote b || is_bad b)))
