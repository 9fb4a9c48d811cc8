-- Laws about what a file says before and after an operation (go help mod edit). They concern the definitions alone.
use Rattle.std.specs.Prelude.{◌≡◌, ◌&&◌, if◌then◌else◌, ℕ, true, false, not, List, [], ◌∷◌, Some, None, filter}
use Rattle.std.specs.List.{list_any}
use Rattle.std.specs.List.Sorted.{IsPermutation}
use Rattle.gm_syntax_words.specs.Tokens.{Placed}
use Rattle.gm_syntax.specs.Document.{Line, IsDocument}
use Rattle.gm_syntax.specs.LineViews.{plain_lines}
use Rattle.gm_file.specs.Directives.{Strict, Directive, directives}
use Rattle.gm_file.specs.Faults.{fault_of}
use Rattle.gm_file_edit.specs.About.{about}
use Rattle.gm_file_edit.specs.Edited.{lines_after}
use Rattle.gm_file_edit.specs.Kinds.{added_by, is_drop, is_fit, set_by}
use Rattle.gm_file_edit.specs.Edits.{Edit, edit_in}

-- the directives that lines hold, in order
abbrev pub directives_of : List (Line Placed) → List Directive
directives_of lines = directives Strict (plain_lines lines)

-- the operation is spelled by some text and isn't refused, and the lines are a file without a fault
abbrev pub IsEditOf : Edit → List (Line Placed) → Type 0
IsEditOf edit lines = ((text : List ℕ) × (edit_in text ≡ Some edit)) × (is_fit edit ≡ true)
    × IsDocument (plain_lines lines) × (fault_of Strict (plain_lines lines) ≡ None)

-- after a drop no directive is left that it targets
abbrev pub DroppedIsGone : Type 0
DroppedIsGone = (edit : Edit) (lines : List (Line Placed)) → is_drop edit ≡ true
    → list_any (about edit) (directives_of (lines_after edit lines)) ≡ false

-- what an operation sets is there once, and no other directive that it targets
abbrev pub SetStandsAlone : Type 0
SetStandsAlone = (edit : Edit) (lines : List (Line Placed)) (d : Directive) → IsEditOf edit lines
    → set_by edit ≡ Some d → filter (about edit) (directives_of (lines_after edit lines)) ≡ d ∷ []

-- what an operation adds is there once if nothing was targeted, and otherwise the targeted directives are as before
abbrev pub AddedIsThere : Type 0
AddedIsThere = (edit : Edit) (lines : List (Line Placed)) (d : Directive) → IsEditOf edit lines
    → added_by edit ≡ Some d
    → filter (about edit) (directives_of (lines_after edit lines))
    ≡ (if list_any (about edit) (directives_of lines) then filter (about edit) (directives_of lines) else d ∷ [])

-- the directives that an operation doesn't target are the same list before and after it
abbrev pub OthersStay : Type 0
OthersStay = (edit : Edit) (lines : List (Line Placed)) → IsEditOf edit lines
    → filter (λ d. not (about edit d)) (directives_of (lines_after edit lines))
    ≡ filter (λ d. not (about edit d)) (directives_of lines)

-- ---- two operations in either order

-- no directive is one that both operations target
abbrev pub AreApart : Edit → Edit → Type 0
AreApart one other = (d : Directive) → (about one d && about other d) ≡ false

-- Two such operations leave the same directives, each as often, in either order. Their order in the file may differ.
abbrev pub EitherOrderLeavesTheSame : Type 0
EitherOrderLeavesTheSame = (one other : Edit) (lines : List (Line Placed)) → IsEditOf one lines → IsEditOf other lines
    → AreApart one other
    → IsPermutation (directives_of (lines_after other (lines_after one lines)))
    (directives_of (lines_after one (lines_after other lines)))
