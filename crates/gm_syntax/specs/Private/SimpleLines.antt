-- Texts of lines that are read without a list of words.
use Rattle.std.specs.Prelude.{◌≡◌, ◌⊎◌, List, [], ◌∷◌, ◌++◌, ℕ, ◌+◌, length, true, false, Option, Some}
use Rattle.gm_syntax_words.specs.declared.word.Kind.TheVariants.{Mark}
use Rattle.gm_syntax_words.specs.Words.{Word, AllBlank}
use Rattle.gm_syntax_words.specs.Tokens.{Placed}
use Rattle.gm_syntax_words.specs.Spelling.{ending_of}
use Rattle.gm_syntax_words.specs.ReadLine.{IsOnlyReading}
use Rattle.gm_syntax.specs.declared.simple_line.SimpleLine.{SimpleLine}
use Rattle.gm_syntax.specs.declared.simple_line.SimpleLine.TheVariants as simple
use Rattle.gm_syntax.specs.Document.{Place}
use Rattle.gm_syntax.specs.SimpleLines.{bare_word}

-- the text consists of these words, blanks, and perhaps a comment
abbrev pub IsWordsText : List ℕ → List Word → Type 0
IsWordsText text words = (comment : Option (List ℕ)) × IsOnlyReading text words (ending_of comment)

-- the text is an opening parenthesis, blanks, and nothing more or a comment
abbrev pub IsOpeningEnd : List ℕ → Type 0
IsOpeningEnd text = (blanks rest : List ℕ) × AllBlank blanks × (text ≡ 40 ∷ (blanks ++ rest))
    × ((rest ≡ []) ⊎ ((more : List ℕ) × (rest ≡ 47 ∷ 47 ∷ more)))

-- the bare word that begins at this offset of the source, on the line with this number
abbrev pub bare_at : ℕ → ℕ → List ℕ → Placed
bare_at from number text =
    record { word = bare_word text; line = number; span = Some (record { first = from; after = from + length text }) }

-- the text of the line at this place, which begins at this offset of the source, is this simple line
abbrev pub IsSimpleText : Place → ℕ → List ℕ → List ℕ → SimpleLine → Type 0
IsSimpleText at offset text verb simple.Blank = text ≡ []
IsSimpleText at offset text verb (simple.Pair first second) =
    IsWordsText text (bare_word first.now ∷ bare_word second.now ∷ [])
IsSimpleText at offset text verb (simple.PairAfter first second) =
    IsWordsText text (bare_word verb ∷ bare_word first.now ∷ bare_word second.now ∷ [])
IsSimpleText at offset text verb (simple.Opening token) = (at.inside ≡ false)
    × (token ≡ bare_at offset at.number verb) × (rest : List ℕ) × (text ≡ verb ++ rest)
    × IsWordsText text (bare_word verb ∷ record { kind = Mark; spelling = 40 ∷ [] } ∷ [])
IsSimpleText at offset text verb simple.Closing = (at.inside ≡ true) × (text ≡ 41 ∷ [])

-- the place of the line after this simple line
abbrev pub after_simple : Place → SimpleLine → Place
after_simple at (simple.Opening token) = record { number = at.number + 1; inside = true; opened = at.number }
after_simple at simple.Closing = record at { number = at.number + 1; inside = false }
after_simple at line = record at { number = at.number + 1 }
