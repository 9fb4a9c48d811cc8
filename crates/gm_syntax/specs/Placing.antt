-- Where the words of a document stand in its source: with blanks and comments they make up each line.
use Rattle.std.specs.Prelude.{⊤, ◌≡◌, ℕ, ◌+◌, ◌==◌, List, [], ◌∷◌, length, take, Some, None}
use Rattle.std.specs.List.{AllByRecursion, count_by}
use Rattle.gm_syntax_words.specs.declared.word.Span.{Span}
use Rattle.gm_syntax_words.specs.Lines.{lines_of}
use Rattle.gm_syntax_words.specs.Tokens.{Placed}
use Rattle.gm_syntax_words.specs.LineText.{FillText}
use Rattle.gm_syntax.specs.Document.{Line, Blank, Comment, Open, Close, Entry}
use Rattle.gm_syntax.specs.LineViews.{all_tokens}

-- A text that begins at this offset of the source is the words and the comment of this line. The parentheses
-- that open and close a block are words too, but are not stored.
abbrev pub FillsLine : ℕ → List ℕ → Line Placed → Type 0
FillsLine from text Blank = FillText from text [] None
FillsLine from text (Comment comment) = FillText from text [] (Some comment)
FillsLine from text (Open verb suffix) = (opening : Placed) × (opening.word.spelling ≡ 40 ∷ [])
    × FillText from text (verb ∷ opening ∷ []) suffix
FillsLine from text (Close suffix) = (closing : Placed) × (closing.word.spelling ≡ 41 ∷ [])
    × FillText from text (closing ∷ []) suffix
FillsLine from text (Entry words suffix) = FillText from text words suffix

-- Each text is the words and the comment of the line with the same index. The first text begins at this offset
-- of the source, and a line feed separates each from the next.
abbrev pub FillLines : ℕ → List (List ℕ) → List (Line Placed) → Type 0
FillLines from [] [] = ⊤
FillLines from [] (line ∷ lines) = ⊥
FillLines from (text ∷ texts) [] = ⊥
FillLines from (text ∷ texts) (line ∷ lines) = FillsLine from text line
    × FillLines (from + length text + 1) texts lines

abbrev pub line_feeds : List ℕ → ℕ
line_feeds text = count_by (λ b. b == 10) text

-- the line number of the word is one more than the number of line feeds in the source before its span
abbrev pub IsLineCounted : List ℕ → Placed → Type 0
IsLineCounted source t = (span : Span) × (t.span ≡ Some span) × (t.line ≡ 1 + line_feeds (take span.first source))

abbrev pub AreLinesCounted : List ℕ → List (Line Placed) → Type 0
AreLinesCounted source doc = AllByRecursion (IsLineCounted source) (all_tokens doc)

-- the words of a document stand where their spans and line numbers say
pub record IsPlacedIn (source : List ℕ) (doc : List (Line Placed)) : Type 0 where
  pub fills_lines : FillLines 0 (lines_of source) doc
  pub counted_lines : AreLinesCounted source doc
