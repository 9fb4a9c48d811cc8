-- What an operation does to the lines of a file, in the words of a reader of that file (go help mod edit).
use Rattle.std.specs.Prelude.{◌≡◌, ℕ, Bool, true, false, List, [], ◌∷◌, ◌++◌, Some, None, is_some, filter}
use Rattle.std.specs.List.{list_any}
use Rattle.gm_syntax_words.specs.Tokens.{Placed}
use Rattle.gm_syntax.specs.Document.{Line, Blank, Comment, Open, Close, Entry}
use Rattle.gm_file.specs.Directives.{Directive, block_after_lines}
use Rattle.gm_file_edit.specs.About.{about}
use Rattle.gm_file_edit.specs.Edited.{lines_after, has_verb, new_entry}
use Rattle.gm_file_edit.specs.Edits.{Edit}
use Rattle.gm_file_edit.specs.Holding.{directive_at, passes, is_there}
use Rattle.gm_file_edit_laws.specs.Laws.{directives_of, IsEditOf}
use Rattle.gm_file_edit.specs.Kinds.{added_by, is_drop, set_by}
use Rattle.gm_file_edit.specs.NewWords.{entry_at, single}

-- ---- operations with nothing to do

-- if no directive is one that an operation drops, the operation leaves the lines as they are
abbrev pub IdleDropChangesNothing : Type 0
IdleDropChangesNothing = (edit : Edit) (lines : List (Line Placed)) → is_drop edit ≡ true
    → list_any (about edit) (directives_of lines) ≡ false → lines_after edit lines ≡ lines

-- if some directive is what an operation adds, the operation leaves the lines as they are
abbrev pub IdleAdditionChangesNothing : Type 0
IdleAdditionChangesNothing = (edit : Edit) (lines : List (Line Placed)) (d : Directive) → added_by edit ≡ Some d
    → list_any (about edit) (directives_of lines) ≡ true → lines_after edit lines ≡ lines

-- a drop that follows the same drop changes nothing
abbrev pub SecondDropChangesNothing : Type 0
SecondDropChangesNothing = (edit : Edit) (lines : List (Line Placed)) → is_drop edit ≡ true
    → lines_after edit (lines_after edit lines) ≡ lines_after edit lines

-- an addition that follows the same addition changes nothing
abbrev pub SecondAdditionChangesNothing : Type 0
SecondAdditionChangesNothing = (edit : Edit) (lines : List (Line Placed)) (d : Directive) → IsEditOf edit lines
    → added_by edit ≡ Some d → lines_after edit (lines_after edit lines) ≡ lines_after edit lines

-- a setting that follows the same setting changes nothing
abbrev pub SecondSettingChangesNothing : Type 0
SecondSettingChangesNothing = (edit : Edit) (lines : List (Line Placed)) (d : Directive) → IsEditOf edit lines
    → set_by edit ≡ Some d → lines_after edit (lines_after edit lines) ≡ lines_after edit lines

-- so does every operation: given twice, it leaves what it leaves if it is given once
abbrev pub SecondOperationChangesNothing : Type 0
SecondOperationChangesNothing = (edit : Edit) (lines : List (Line Placed)) → IsEditOf edit lines
    → lines_after edit (lines_after edit lines) ≡ lines_after edit lines

-- ---- comments

-- whether a line is a comment and nothing else
abbrev pub is_comment_line : Line Placed → Bool
is_comment_line Blank = false
is_comment_line (Comment text) = true
is_comment_line (Open verb suffix) = false
is_comment_line (Close suffix) = false
is_comment_line (Entry words suffix) = false

-- an operation leaves every comment line, in order, and adds none
abbrev pub CommentLinesStay : Type 0
CommentLinesStay = (edit : Edit) (lines : List (Line Placed))
    → filter is_comment_line (lines_after edit lines) ≡ filter is_comment_line lines

-- ---- where an addition goes

-- Lines around a line that holds a directive of a verb, where no later line holds one. The first and the last lines
-- may be none.
pub record IsLastOfVerb (verb : List ℕ) (front : List (Line Placed)) (line : Line Placed)
    (back : List (Line Placed)) : Type 0 where
  pub is_of_verb : passes (has_verb verb) (directive_at (block_after_lines None front) line) ≡ true
  pub none_later : is_there (has_verb verb) (block_after_lines None (front ++ line ∷ [])) back ≡ false

-- If an operation targets no directive and the file has a directive of its verb, the new entry goes directly after
-- the last one, in the same block if that one is in a block. All lines stay.
abbrev pub AdditionFollowsItsVerb : Type 0
AdditionFollowsItsVerb = (edit : Edit) (verb : List ℕ) (arguments : List Placed) (front back : List (Line Placed))
    (line : Line Placed) → new_entry edit ≡ Some (verb, arguments)
    → list_any (about edit) (directives_of (front ++ line ∷ back)) ≡ false → IsLastOfVerb verb front line back
    → lines_after edit (front ++ line ∷ back)
    ≡ front ++ line ∷ entry_at (is_some (block_after_lines None front)) verb arguments ∷ back

-- If an operation targets no directive and the file has no directive of its verb, the new entry goes to the end,
-- after a blank line. All lines stay.
abbrev pub AdditionOfANewVerbIsLast : Type 0
AdditionOfANewVerbIsLast = (edit : Edit) (verb : List ℕ) (arguments : List Placed) (lines : List (Line Placed))
    → new_entry edit ≡ Some (verb, arguments)
    → list_any (about edit) (directives_of lines) ≡ false
    → list_any (has_verb verb) (directives_of lines) ≡ false
    → lines_after edit lines ≡ lines ++ Blank ∷ single verb arguments ∷ []
