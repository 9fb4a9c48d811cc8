-- Reading a document line by line, without keeping its lines.
use Rattle.std.specs.Prelude.{◌≡◌, ℕ, ◌+◌, ◌-◌, ◌≤◌, List, [], ◌∷◌, ◌++◌, length, drop, Option, Some, None, Result, Ok, Err}
use Rattle.gm_syntax_words.specs.declared.fault.SyntaxFault.{SyntaxFault}
use Rattle.gm_syntax_words.specs.Words.{Word}
use Rattle.gm_syntax_words.specs.Tokens.{Placed, AreSlicesBetween}
use Rattle.gm_syntax_words.specs.Lines.{lines_of}
use Rattle.gm_syntax.specs.declared.line.Line as declared
use Rattle.gm_syntax.specs.Document.{Line, Finish, ReadsLines, AreLines, IsDocument, start, Place}
use Rattle.gm_syntax.specs.LineViews.{line_of, plain_lines, all_tokens, AreLinesNumbered}
use Rattle.gm_syntax.specs.Placing.{FillLines, IsPlacedIn}
use Rattle.gm_syntax.specs.Parsed.{IsText, IsParsedAs, IsFaultOrNoMemory}

-- what a reader of lines has still to read: the text from the next line on, and the place of that line
pub record Unread : Type 0 where
  pub source : List ℕ
  pub rest : List ℕ
  pub at : Place

-- the lines so far, followed by the reading of the rest, are the reading of the text
pub record TextProgress (text : List ℕ) (lines : List (Line Word)) (at : Place) (rest : List ℕ) : Type 0 where
  pub there : (more : List (Line Word)) (f : Finish) → ReadsLines at (lines_of rest) more f
      → ReadsLines start (lines_of text) (lines ++ more) f
  pub back : (all : List (Line Word)) (f : Finish) → ReadsLines start (lines_of text) all f
      → (more : List (Line Word)) × (all ≡ lines ++ more) × ReadsLines at (lines_of rest) more f
  pub document : (more : List (Line Word)) → AreLines at more → AreLines start (lines ++ more)

-- the lines so far take the text up to its rest
abbrev pub LinesFillUpTo : List ℕ → List (Line Placed) → List ℕ → Type 0
LinesFillUpTo text lines rest = (more : List (Line Placed))
    → FillLines (length text - length rest) (lines_of rest) more → FillLines 0 (lines_of text) (lines ++ more)

-- these lines have been read, in order: they are what the text is up to the rest, and their words stand there
pub record HasRead (left : Unread) (lines : List (Line Placed)) : Type 0 where
  pub is_text : IsText left.source
  pub progress : TextProgress left.source (plain_lines lines) left.at left.rest
  pub fits : length left.rest ≤ length left.source
  pub suffix : left.rest ≡ drop (length left.source - length left.rest) left.source
  pub counted : left.at.number ≡ 1 + length lines
  pub placed : AreSlicesBetween left.source 0 (length left.source - length left.rest) (all_tokens lines)
  pub numbered : AreLinesNumbered 1 lines
  pub filled : LinesFillUpTo left.source lines left.rest

-- these lines are the document of the text, with each word where its span and its line number say
pub record IsReadDocument (source : List ℕ) (lines : List (Line Placed)) : Type 0 where
  pub parsed : IsParsedAs source (Ok lines)
  pub document : IsDocument (plain_lines lines)
  pub placed : AreSlicesBetween source 0 (length source) (all_tokens lines)
  pub numbered : AreLinesNumbered 1 lines
  pub stand : IsPlacedIn source lines

-- After these lines the result is one line more, or the end of the document, or the fault of the text. Memory can run
-- out in place of each.
abbrev pub IsNextRead : Unread → List (Line Placed) → Result (Option declared.Line) SyntaxFault → Type 0
IsNextRead left lines (Ok (Some line)) = HasRead left (lines ++ line_of line ∷ [])
IsNextRead left lines (Ok None) = IsReadDocument left.source lines
IsNextRead left lines (Err fault) = IsFaultOrNoMemory left.source fault

-- More lines have been read after these, and they are the document, or the result is the fault of the text. Memory can
-- run out in place of each.
abbrev pub IsRestRead : Unread → List (Line Placed) → Result (Unit {0}) SyntaxFault → Type 0
IsRestRead left lines (Ok u) = (more : List (Line Placed)) × HasRead left (lines ++ more)
    × IsParsedAs left.source (Ok (lines ++ more))
IsRestRead left lines (Err fault) = (more : List (Line Placed)) × HasRead left (lines ++ more)
    × IsFaultOrNoMemory left.source fault
