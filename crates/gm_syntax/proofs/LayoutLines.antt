-- The layout as a list of lines.
use Rattle.std.specs.Prelude.{Bool, true, not, ◌&&◌, List, [], ◌∷◌, ◌++◌, if◌then◌else◌}
use Rattle.gm_syntax_words.specs.Words.{Word}
use Rattle.gm_syntax_words.specs.LayoutParts.{LayoutState}
use Rattle.gm_syntax.specs.Document.{Line, Blank}
use Rattle.gm_syntax.specs.Layout.{is_blank_line, is_close, state_after}

-- the layout has a blank line before this line
abbrev pub has_gap : LayoutState → Line Word → Bool
has_gap b line = b.gap_pending && (b.gap_allowed && not (is_close line))

-- that blank line, if there is one
abbrev pub gap_lines : LayoutState → Line Word → List (Line Word)
gap_lines b line = if has_gap b line then Blank ∷ [] else []

-- the lines of the layout: those of the document, with one blank line where blank lines are kept
unfoldable pub layout_lines : LayoutState → List (Line Word) → List (Line Word)
layout_lines b [] = []
layout_lines b (line ∷ lines) = if is_blank_line line then layout_lines (record b { gap_pending = true }) lines
    else gap_lines b line ++ line ∷ layout_lines (state_after b line) lines
