-- How contracts view the marks of lines. No public contract cites it.
use Rattle.std.specs.Prelude.{◌≡◌, ◌≤◌, ℕ, ⊤, Bool, true, false, List, [], ◌∷◌, length, insert, map, take, Option, Some, None, is_none, is_some, slice_index_or}
use Rattle.std.specs.List.{zip}
use Rattle.gm_syntax_words.specs.Tokens.{Placed}
use Rattle.gm_syntax.specs.Document.{Line, Blank, Open, Close}
use Rattle.gm_file.specs.declared.verb.Verb.{Verb}
use Rattle.gm_file.specs.Directives.{Strict, Directive, block_after_lines, main_verb, verb_in, with_blocks_from}
use Rattle.gm_file_edit.specs.declared.adding.Spot.{Spot}
use Rattle.gm_file_edit.specs.declared.packing.Place.{Place}
use Rattle.gm_file_edit.specs.declared.packing.Place.TheVariants as place
use Rattle.gm_file_edit.specs.Edited.{with_addition}
use Rattle.gm_file_edit.specs.Fates.{Fate, fate_by}
use Rattle.gm_file_edit.specs.Holding.{directive_at, passes, is_loose}
use Rattle.gm_file_edit.specs.NewWords.{entry_at}

-- the line at an index
abbrev pub line_at : List (Line Placed) → ℕ → Line Placed
line_at lines n = slice_index_or lines n Blank

-- whether a line is a closing without a comment
abbrev pub closes_bare : Line Placed → Bool
closes_bare (Close suffix) = is_none suffix
closes_bare _ = false

-- whether a line is an opening without a comment
abbrev pub opens_bare : Line Placed → Bool
opens_bare (Open verb suffix) = is_none suffix
opens_bare _ = false

-- whether each line holds a directive that passes the test, given the verb of the open block, if any
abbrev pub marks_from : (Directive → Bool) → Option Placed → List (Line Placed) → List Bool
marks_from test block lines = map (λ seat. passes test (directive_at seat.0 seat.1)) (with_blocks_from block lines)

-- the fates of lines, each with its mark
abbrev pub fates_of : List Bool → List (Line Placed) → List Fate
fates_of marks lines = map (λ pair. fate_by pair.0 pair.1) (zip marks lines)

-- each line has a mark or not, and none that opens or closes a block has one
abbrev pub AreAtEntries : List Bool → List (Line Placed) → Type 0
AreAtEntries [] [] = ⊤
AreAtEntries [] (line ∷ lines) = ⊥
AreAtEntries (mark ∷ marks) [] = ⊥
AreAtEntries (true ∷ marks) (line ∷ lines) = (is_loose line ≡ true) × AreAtEntries marks lines
AreAtEntries (false ∷ marks) (line ∷ lines) = AreAtEntries marks lines

-- the open block, if any, has this verb
abbrev pub IsOfVerb : List ℕ → Option Placed → Type 0
IsOfVerb verb None = ⊤
IsOfVerb verb (Some t) = verb_in Strict t.word.spelling ≡ main_verb verb

-- a position is where an entry with this verb is added next to others
pub record IsAdditionSpot (own : Verb) (lines : List (Line Placed)) (spot : Spot) : Type 0 where
  pub in_range : spot.before ≤ length lines
  pub inside : is_some (block_after_lines None (take spot.before lines)) ≡ spot.inside
  pub of_verb : (verb : List ℕ) → main_verb verb ≡ own → IsOfVerb verb (block_after_lines None (take spot.before lines))
  pub adds : (verb : List ℕ) (arguments : List Placed) → main_verb verb ≡ own
      → insert lines spot.before (entry_at spot.inside verb arguments) ≡ with_addition verb arguments lines

-- whether the block goes that is open at a place, if one is
abbrev pub block_at : Place → Option Bool
block_at place.Outside = None
block_at place.BehindGone = None
block_at place.InKept = Some false
block_at place.InGone = Some true

-- whether a place is behind a block that goes
abbrev pub is_behind_gone : Place → Bool
is_behind_gone place.BehindGone = true
is_behind_gone _ = false
