-- Lines that are read without a list of words, in a block of `require` and outside blocks.
use Rattle.std.specs.Prelude.{◌≡◌, ℕ, List, [], ◌∷◌, ◌++◌, codes, IfSome, Result}
use Rattle.gm_syntax_words.specs.Tokens.{Placed}
use Rattle.gm_syntax.specs.LineReading.{Unread, HasRead}
use Rattle.gm_syntax.specs.LineViews.{plain, plain_lines}
use Rattle.gm_syntax.specs.SimpleLines.{bare_word}
use Rattle.gm_syntax.specs.Document.{Line}
use Rattle.gm_file.specs.declared.dep_lines.DepLines.{DepLines}
use Rattle.gm_file.specs.declared.fault.LineFault.{LineFault}
use Rattle.gm_file.specs.Private.DepLines.{AreDepLines, IsNextLineOf}
use Rattle.gm_file.specs.Directives.{Item, Saying}

-- no block is open, or one of `require`
abbrev pub TakesSimple : DepLines → Type 0
TakesSimple said = IfSome said.block (λ verb. verb.word.spelling ≡ codes "require")

-- the content of a line of these two bare words outside blocks
abbrev pub single_item : List ℕ → List ℕ → Item
single_item verb value = Saying verb (bare_word value ∷ [])

-- some lines have been read, and this is what they say
abbrev pub AreReadSofar : Unread → DepLines → Type 0
AreReadSofar left said = (lines : List (Line Placed)) × HasRead left lines × AreDepLines (plain_lines lines) said

-- after these lines one more has been read, and what it says has been added, or this is its fault
abbrev pub IsLineSaid : Unread → List (Line Placed) → DepLines → Result (Unit {0}) LineFault → Type 0
IsLineSaid left lines said result = (here : Line Placed) × HasRead left (lines ++ here ∷ [])
    × IsNextLineOf (plain_lines lines) (plain here) said result
