-- An operation that is undone by a drop of what it put in (go help mod edit).
use Rattle.std.specs.Prelude.{◌≡◌, ℕ, if◌then◌else◌, false, List, [], ◌∷◌, ◌++◌, Option, Some, None}
use Rattle.std.specs.List.{list_any}
use Rattle.gm_syntax_words.specs.Tokens.{Placed}
use Rattle.gm_syntax.specs.Layout.{layout}
use Rattle.gm_syntax.specs.LineViews.{plain_lines}
use Rattle.gm_syntax.specs.Document.{Line, Blank}
use Rattle.gm_file_edit.specs.About.{about}
use Rattle.gm_file_edit.specs.Edited.{lines_after, has_verb, new_entry}
use Rattle.gm_file_edit.specs.Edits.{Edit, Set, ModuleIs, GoIs, RequireAt, ReplaceWith, Add, Exclude, Retract, Drop, AnyRequire, AnyExclude, AnyReplace, AnyRetract}
use Rattle.gm_file_edit_laws.specs.Laws.{directives_of, IsEditOf}

-- the drop of the directive that an operation puts in; none drops a module or go directive
abbrev pub undone_by : Edit → Option Edit
undone_by (Set (ModuleIs path)) = None
undone_by (Set (GoIs text)) = None
undone_by (Set (RequireAt p)) = Some (Drop (AnyRequire p.0))
undone_by (Set (ReplaceWith r)) = Some (Drop (AnyReplace r.0))
undone_by (Add (Exclude p)) = Some (Drop (AnyExclude p))
undone_by (Add (Retract ends)) = Some (Drop (AnyRetract ends))
undone_by (Drop t) = None

-- If an operation targets no directive, the drop of the one that it puts in leaves the lines as they were before the
-- operation. If they have no directive of its verb, a blank line at the end stays, which the operation put in.
abbrev pub DropUndoes : Type 0
DropUndoes = (edit undo : Edit) (verb : List ℕ) (arguments : List Placed) (lines : List (Line Placed))
    → IsEditOf edit lines → new_entry edit ≡ Some (verb, arguments) → undone_by edit ≡ Some undo
    → list_any (about edit) (directives_of lines) ≡ false
    → lines_after undo (lines_after edit lines)
    ≡ (if list_any (has_verb verb) (directives_of lines) then lines else lines ++ Blank ∷ [])

-- so both operations leave what formatting alone leaves
abbrev pub DropUndoesForLayout : Type 0
DropUndoesForLayout = (edit undo : Edit) (lines : List (Line Placed)) → IsEditOf edit lines
    → undone_by edit ≡ Some undo → list_any (about edit) (directives_of lines) ≡ false
    → layout (plain_lines (lines_after undo (lines_after edit lines))) ≡ layout (plain_lines lines)
