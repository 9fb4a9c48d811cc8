-- A copy from crates/gm_syntax/specs/Layout.antt, which tools/check/headline.py writes.
use Rattle.std.specs.Prelude.{ℕ, Bool, true, false, not, ◌&&◌, ◌||◌, List, [], ◌∷◌, ◌++◌, if◌then◌else◌}
use Rattle.page_commands.specs.Words.{Word, is_mark}
use Rattle.page_commands.specs.LayoutParts.{LayoutState, suffix_text}
use Rattle.page_commands.specs.Document.{Line, Blank, Comment, Open, Close, Entry, inside_after}

-- no space after ( and [, and none before ) ] and ,
abbrev pub omits_space : Word → Word → Bool
omits_space w v = (is_mark 40 w || is_mark 91 w) || (is_mark 41 v || (is_mark 93 v || is_mark 44 v))

abbrev pub between : Word → Word → List ℕ
between w v = if omits_space w v then [] else 32 ∷ []

-- the words with the spaces between them
abbrev pub words_text : List Word → List ℕ
words_text [] = []
words_text (w ∷ []) = w.spelling
words_text (w ∷ v ∷ words) = w.spelling ++ between w v ++ words_text (v ∷ words)

abbrev pub indent : Bool → List ℕ
indent inside = if inside then 9 ∷ [] else []

-- a line without its line feed; a blank one is empty
abbrev pub line_text : Bool → Line Word → List ℕ
line_text inside Blank = []
line_text inside (Comment text) = indent inside ++ text
line_text inside (Open verb suffix) = verb.spelling ++ 32 ∷ 40 ∷ [] ++ suffix_text suffix
line_text inside (Close suffix) = 41 ∷ suffix_text suffix
line_text inside (Entry words suffix) = indent inside ++ words_text words ++ suffix_text suffix

abbrev pub is_open : Line Word → Bool
is_open (Open verb suffix) = true
is_open line = false

abbrev pub is_close : Line Word → Bool
is_close (Close suffix) = true
is_close line = false

-- the state of the layout after a line that is not blank
abbrev pub state_after : LayoutState → Line Word → LayoutState
state_after b line =
    record { gap_allowed = not (is_open line); gap_pending = false; inside = inside_after b.inside line }

-- one blank line where the document has some, but none at the start, after an opening or before a closing
abbrev pub gap_text : LayoutState → Line Word → List ℕ
gap_text b line = if b.gap_pending && (b.gap_allowed && not (is_close line)) then 10 ∷ [] else []

-- a line that is not blank, with what goes before it
abbrev pub line_with_gap : LayoutState → Line Word → List ℕ
line_with_gap b line = gap_text b line ++ line_text b.inside line ++ 10 ∷ []

abbrev pub is_blank_line : Line Word → Bool
is_blank_line Blank = true
is_blank_line line = false

-- the layout of the lines from some state on; blank lines are only noted in the state
unfoldable pub layout_from : LayoutState → List (Line Word) → List ℕ
layout_from b [] = []
layout_from b (line ∷ lines) = if is_blank_line line then layout_from (record b { gap_pending = true }) lines
    else line_with_gap b line ++ layout_from (state_after b line) lines

-- the state at the start of a document
abbrev pub initial_state : LayoutState
initial_state = record { gap_allowed = false; gap_pending = false; inside = false }

-- the layout of a document
abbrev pub layout : List (Line Word) → List ℕ
layout lines = layout_from initial_state lines
