-- What a drop and a setting leave of the lines of a file (go help mod edit). Lines that go are marked, the marks are
-- widened to the blocks that this empties, and the lines without a mark are kept.
use Rattle.std.specs.Prelude.{ℕ, ◌&&◌, ◌||◌, if◌then◌else◌, Bool, true, false, List, [], ◌∷◌, Option, Some, None, is_none}
use Rattle.std.specs.List.{filter_map}
use Rattle.gm_syntax_words.specs.Tokens.{Placed}
use Rattle.gm_syntax.specs.Document.{Line, Blank, Open, Close}
use Rattle.gm_file.specs.Directives.{Directive, block_after_line}
use Rattle.gm_file_edit.specs.Holding.{directive_at, passes}

-- the fate of a line: the line that stays in its place, as is or rewritten, or `None` for a line with a mark, which
-- goes
abbrev pub Fate : Type 0
Fate = Option (Line Placed)

-- the fate of a line that has a mark or not
abbrev pub fate_by : Bool → Line Placed → Fate
fate_by true line = None
fate_by false line = Some line

-- ---- the targeted lines

-- the lines, given the verb of the open block, if any, with a mark at each that holds a directive that passes the test
abbrev pub dropping_from : (Directive → Bool) → Option Placed → List (Line Placed) → List Fate
dropping_from test block [] = []
dropping_from test block (line ∷ lines) =
    fate_by (passes test (directive_at block line)) line ∷ dropping_from test (block_after_line block line) lines

-- the lines with the first such line rewritten, and with a mark at each later one
abbrev pub renewing_from : (Directive → Bool) → (Option Placed → Line Placed → Line Placed) → Option Placed
    → List (Line Placed) → List Fate
renewing_from test new block [] = []
renewing_from test new block (line ∷ lines) =
    if passes test (directive_at block line) then Some (new block line) ∷ dropping_from test
    (block_after_line block line) lines
    else Some line ∷ renewing_from test new (block_after_line block line) lines

-- ---- the blocks that this empties

-- Whether the lines from here to a closing empty a block: each is blank or has a mark, the closing has no comment, and
-- a line has a mark here or before.
abbrev pub empties : Bool → List Fate → Bool
empties lost [] = false
empties lost (None ∷ fates) = empties true fates
empties lost (Some Blank ∷ fates) = empties lost fates
empties lost (Some (Close suffix) ∷ fates) = lost && is_none suffix
empties lost (Some line ∷ fates) = false

-- whether an opening with this comment opens a block that these lines empty; no block is open before it
abbrev pub is_emptied : Option Bool → Option (List ℕ) → List Fate → Bool
is_emptied block suffix fates = is_none block && is_none suffix && empties false fates

-- whether a block is open that goes, by what is known of the open block, if any
abbrev pub is_in_gone : Option Bool → Bool
is_in_gone None = false
is_in_gone (Some goes) = goes

-- The lines with marks at all lines of the blocks that are emptied too, and at a blank line whose nearest earlier line
-- without a mark closes such a block. `block` says of the open block, if any, whether it is emptied, and `behind`
-- whether the nearest earlier line without a mark of its own closes an emptied block.
abbrev pub widened_from : Option Bool → Bool → List Fate → List Fate
widened_from block behind [] = []
widened_from block behind (None ∷ fates) = None ∷ widened_from block behind fates
widened_from block behind (Some Blank ∷ fates) =
    fate_by (is_in_gone block || behind) Blank ∷ widened_from block false fates
widened_from block behind (Some (Open verb suffix) ∷ fates) =
    fate_by (is_emptied block suffix fates) (Open verb suffix)
    ∷ widened_from (Some (is_emptied block suffix fates)) false fates
widened_from block behind (Some (Close suffix) ∷ fates) =
    fate_by (is_in_gone block) (Close suffix) ∷ widened_from None (is_in_gone block) fates
widened_from block behind (Some line ∷ fates) = Some line ∷ widened_from block false fates

-- ---- the lines that are kept

-- the lines without a mark
abbrev pub kept_lines : List Fate → List (Line Placed)
kept_lines fates = filter_map (λ fate. fate) fates

-- the lines without a mark, and without the blocks that are emptied
unfoldable pub remaining : List Fate → List (Line Placed)
remaining fates = kept_lines (widened_from None false fates)

-- the lines without those that hold a directive that passes the test
abbrev pub without_targets : (Directive → Bool) → List (Line Placed) → List (Line Placed)
without_targets test lines = remaining (dropping_from test None lines)

-- the lines with the first such line rewritten, and without the later ones
abbrev pub with_renewal : (Directive → Bool) → (Option Placed → Line Placed → Line Placed) → List (Line Placed)
    → List (Line Placed)
with_renewal test new lines = remaining (renewing_from test new None lines)
