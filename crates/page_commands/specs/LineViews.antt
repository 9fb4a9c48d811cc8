-- A copy from crates/gm_syntax/specs/LineViews.antt, which tools/check/headline.py writes.
use Rattle.std.specs.Prelude.{List, map}
use Rattle.page_commands.specs.Words.{Word}
use Rattle.page_commands.specs.Tokens.{Placed}
use Rattle.page_commands.specs.Document.{Line, map_line}

-- the line without the positions of its words
abbrev pub plain : Line Placed → Line Word
plain line = map_line (λ t. t.word) line

abbrev pub plain_lines : List (Line Placed) → List (Line Word)
plain_lines lines = map plain lines
