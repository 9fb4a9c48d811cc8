-- Lines that are read without a list of words: empty ones, two or three bare words, and those that open and close a
-- block.
use Rattle.std.specs.Prelude.{◌≡◌, List, [], ◌∷◌, ◌++◌, ℕ, Option, None}
use Rattle.gm_syntax_words.specs.declared.word.Kind.TheVariants.{Bare}
use Rattle.gm_syntax_words.specs.Words.{Word}
use Rattle.gm_syntax_words.specs.Tokens.{Placed}
use Rattle.gm_syntax.specs.declared.simple_line.SimpleLine.{SimpleLine}
use Rattle.gm_syntax.specs.declared.simple_line.SimpleLine.TheVariants as simple
use Rattle.gm_syntax.specs.Document.{Line, Blank, Open, Close, Entry}
use Rattle.gm_syntax.specs.LineViews.{plain}
use Rattle.gm_syntax.specs.LineReading.{Unread, HasRead}

abbrev pub bare_word : List ℕ → Word
bare_word text = record { kind = Bare; spelling = text }

-- the line of these two bare words
abbrev pub pair_line : List ℕ → List ℕ → Option (List ℕ) → Line Word
pair_line first second suffix = Entry (bare_word first ∷ bare_word second ∷ []) suffix

-- after these lines one more has been read, which is these two bare words and perhaps a comment
abbrev pub IsPairRead : Unread → List (Line Placed) → List ℕ → List ℕ → Type 0
IsPairRead left lines first second = (line : Line Placed) × (suffix : Option (List ℕ))
    × (plain line ≡ pair_line first second suffix) × HasRead left (lines ++ line ∷ [])

-- the line of these three bare words
abbrev pub triple_line : List ℕ → List ℕ → List ℕ → Option (List ℕ) → Line Word
triple_line first second third suffix = Entry (bare_word first ∷ bare_word second ∷ bare_word third ∷ []) suffix

-- after these lines one more has been read, which is these three bare words and perhaps a comment
abbrev pub IsTripleRead : Unread → List (Line Placed) → List ℕ → List ℕ → List ℕ → Type 0
IsTripleRead left lines first second third = (line : Line Placed) × (suffix : Option (List ℕ))
    × (plain line ≡ triple_line first second third suffix) × HasRead left (lines ++ line ∷ [])

-- after these lines one more has been read, which opens a block of this verb
abbrev pub IsOpeningRead : Unread → List (Line Placed) → Placed → Type 0
IsOpeningRead left lines verb = (suffix : Option (List ℕ)) × HasRead left (lines ++ Open verb suffix ∷ [])

-- after these lines one more has been read, which is this simple line; the verb is the one that was asked for
abbrev pub IsSimpleRead : Unread → List (Line Placed) → List ℕ → SimpleLine → Type 0
IsSimpleRead left lines verb simple.Blank = HasRead left (lines ++ Blank ∷ [])
IsSimpleRead left lines verb (simple.Pair first second) = IsPairRead left lines first.now second.now
IsSimpleRead left lines verb (simple.PairAfter first second) = IsTripleRead left lines verb first.now second.now
IsSimpleRead left lines verb (simple.Opening token) = (token.word.spelling ≡ verb) × IsOpeningRead left lines token
IsSimpleRead left lines verb simple.Closing = HasRead left (lines ++ Close None ∷ [])
