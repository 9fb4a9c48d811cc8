-- What an operation leaves of the lines of a file (go help mod edit).
use Rattle.std.specs.Prelude.{ℕ, ◌&&◌, not, if◌then◌else◌, Bool, List, [], ◌∷◌, ◌++◌, codes, Option, Some, None, is_some}
use Rattle.gm_syntax_words.specs.Tokens.{Placed}
use Rattle.gm_syntax.specs.Document.{Line, Blank, Close}
use Rattle.gm_file.specs.Directives.{Directive, block_after_line, is_of_verb, main_verb}
use Rattle.gm_file.specs.Faults.{is_module}
use Rattle.gm_file_edit.specs.About.{about}
use Rattle.gm_file_edit.specs.Edits.{Edit, Set, Add, Drop, GoIs, RequireAt, ReplaceWith, Exclude, Retract}
use Rattle.gm_file_edit.specs.Fates.{without_targets, with_renewal}
use Rattle.gm_file_edit.specs.Holding.{directive_at, is_there, passes}
use Rattle.gm_file_edit.specs.NewWords.{entry_at, interval_words, made_word, pair_words, replace_words, single}
use Rattle.gm_file_edit.specs.Renewing.{made_new}

-- ---- where a new entry goes

-- whether this is the verb of a directive
abbrev pub has_verb : List ℕ → Directive → Bool
has_verb verb d = is_of_verb (main_verb verb) d

-- The lines, given the verb of the open block, if any, with a new entry directly after the last one that holds a
-- directive that passes the test, in the same block if that one is in a block.
abbrev pub after_last_of : (Directive → Bool) → List ℕ → List Placed → Option Placed → List (Line Placed)
    → List (Line Placed)
after_last_of test verb arguments block [] = []
after_last_of test verb arguments block (line ∷ lines) =
    if passes test (directive_at block line) && not (is_there test (block_after_line block line) lines)
    then line ∷ entry_at (is_some block) verb arguments ∷ lines
    else line ∷ after_last_of test verb arguments (block_after_line block line) lines

-- The lines with a new entry after the last one that holds a directive of its verb. If there is none, the entry goes to
-- the end, after a blank line.
unfoldable pub with_addition : List ℕ → List Placed → List (Line Placed) → List (Line Placed)
with_addition verb arguments lines =
    if is_there (has_verb verb) None lines then after_last_of (has_verb verb) verb arguments None lines
    else lines ++ Blank ∷ single verb arguments ∷ []

-- the rest of the lines of a block with new ones after its closing
abbrev pub after_closing : List (Line Placed) → List (Line Placed) → List (Line Placed)
after_closing new [] = new
after_closing new (Close suffix ∷ lines) = Close suffix ∷ (new ++ lines)
after_closing new (line ∷ lines) = line ∷ after_closing new lines

-- The lines, given the verb of the open block, if any, with new ones after the first that holds a directive that passes
-- the test, or after its block if it is in one. If there is none, they go to the end.
abbrev pub after_first_of : (Directive → Bool) → List (Line Placed) → Option Placed → List (Line Placed)
    → List (Line Placed)
after_first_of test new block [] = new
after_first_of test new block (line ∷ lines) =
    line ∷ (if passes test (directive_at block line)
    then (if is_some block then after_closing new lines else new ++ lines)
    else after_first_of test new (block_after_line block line) lines)

-- a blank line and a go directive outside blocks
abbrev pub new_go : List ℕ → List (Line Placed)
new_go text = Blank ∷ single (codes "go") (made_word text ∷ []) ∷ []

-- ---- the operation

-- the lines after an operation that targets a directive: a setting sets it, an addition finds it there, and a drop
-- drops it
unfoldable pub with_change : Edit → List (Line Placed) → List (Line Placed)
with_change (Set s) lines = with_renewal (about (Set s)) (made_new (Set s)) lines
with_change (Add a) lines = lines
with_change (Drop t) lines = without_targets (about (Drop t)) lines

-- the verb and the arguments of the entry that an operation puts in next to those of its verb, if it does
abbrev pub new_entry : Edit → Option (List ℕ × List Placed)
new_entry (Set (RequireAt p)) = Some (codes "require", pair_words p)
new_entry (Set (ReplaceWith r)) = Some (codes "replace", replace_words r)
new_entry (Add (Exclude p)) = Some (codes "exclude", pair_words p)
new_entry (Add (Retract ends)) = Some (codes "retract", interval_words ends)
new_entry _ = None

-- the lines with this entry, if any
abbrev pub with_entry : Option (List ℕ × List Placed) → List (Line Placed) → List (Line Placed)
with_entry None lines = lines
with_entry (Some entry) lines = with_addition entry.0 entry.1 lines

-- The lines after an operation that targets none: its entry is put in, after the last one of its verb, but a go
-- directive after the module directive or its block. No module directive is put in.
unfoldable pub put_in : Edit → List (Line Placed) → List (Line Placed)
put_in (Set (GoIs text)) lines = after_first_of is_module (new_go text) None lines
put_in edit lines = with_entry (new_entry edit) lines

-- the lines after the operation
unfoldable pub lines_after : Edit → List (Line Placed) → List (Line Placed)
lines_after edit lines = if is_there (about edit) None lines then with_change edit lines else put_in edit lines
