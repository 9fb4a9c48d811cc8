-- Documents, and the reading of a text, as a reader sees them: by the parts of a document, by what comes before
-- a line, and by the pieces of a text.
use Rattle.std.specs.Prelude.{◌≡◌, ◌≢◌, ◌⊎◌, ◌<◌, ◌≤◌, ◌+◌, ℕ, Bool, true, false, List, [], ◌∷◌, ◌++◌, length, nat_lt, slice_get, Option, Some, Result, Ok, Err}
use Rattle.std.specs.List.{AllByRecursion, list_all, filter, flat_map}
use Rattle.std.specs.Str.{IsUtf8}
use Rattle.gm_syntax_words.specs.declared.fault.SyntaxKind.{SyntaxKind}
use Rattle.gm_syntax_words.specs.declared.fault.SyntaxKind.TheVariants.{OpenBlock}
use Rattle.gm_syntax_words.specs.declared.fault.SyntaxFault.{SyntaxFault}
use Rattle.gm_syntax_words.specs.declared.fault.SyntaxFault.TheVariants as faults
use Rattle.gm_syntax_words.specs.Words.{Word}
use Rattle.gm_syntax_words.specs.Lines.{HasNoLineFeed}
use Rattle.gm_syntax_words.specs.Tokens.{Placed}
use Rattle.gm_syntax.specs.Document.{Line, Open, Close, Finish, Whole, Faulty, is_level, IsLineAt, HasLineFault, IsValidLine}
use Rattle.gm_syntax.specs.LineViews.{plain_lines}
use Rattle.gm_syntax.specs.Layout.{is_open, is_close}
use Rattle.gm_syntax.specs.Parsed.{IsText}

-- ---- the parts of a document (Go Modules Reference, "go.mod files", section "Grammar")

-- a single line outside blocks, or a block: the verb and the comment of its opening, the lines in it, and the
-- comment of its closing
pub data Part : Type 0 where
  Single : Line Word → Part
  Block : Word → Option (List ℕ) → List (Line Word) → Option (List ℕ) → Part

-- the lines of a part
abbrev pub part_lines : Part → List (Line Word)
part_lines (Single line) = line ∷ []
part_lines (Block verb suffix inner last) = Open verb suffix ∷ (inner ++ Close last ∷ [])

-- a valid line that opens and closes nothing
abbrev pub IsLooseLine : Bool → Line Word → Type 0
IsLooseLine inside line = (is_level line ≡ true) × IsValidLine inside line

-- each line of the part is valid, and no line opens or closes anything except the opening and the closing of
-- the block
abbrev pub IsPart : Part → Type 0
IsPart (Single line) = IsLooseLine false line
IsPart (Block verb suffix inner last) = IsValidLine false (Open verb suffix)
    × AllByRecursion (IsLooseLine true) inner × IsValidLine true (Close last)

-- the lines are those of single lines and blocks, one after another
pub record ConsistOfParts (lines : List (Line Word)) : Type 0 where
  pub parts : List Part
  pub are_parts : AllByRecursion IsPart parts
  pub all_lines : lines ≡ flat_map part_lines parts

-- ---- openings and closings

-- the number of openings among the lines
abbrev pub openings : List (Line Word) → ℕ
openings lines = length (filter is_open lines)

-- the number of closings among the lines
abbrev pub closings : List (Line Word) → ℕ
closings lines = length (filter is_close lines)

-- a block is open after these lines if more of them open a block than close one
abbrev pub is_open_after : List (Line Word) → Bool
is_open_after lines = nat_lt (closings lines) (openings lines)

-- Openings and closings alternate, and the first is an opening: up to any line there are as many openings as
-- closings, or one more. The last block is closed.
pub record AreInTurn (lines : List (Line Word)) : Type 0 where
  pub never_fewer_openings : (front back : List (Line Word)) → lines ≡ front ++ back
      → closings front ≤ openings front
  pub at_most_one_open : (front back : List (Line Word)) → lines ≡ front ++ back
      → openings front ≤ closings front + 1
  pub last_closed : openings lines ≡ closings lines

-- each line is valid after the lines before it, as a line in a block exactly if a block is open after them
abbrev pub AreValidInPlace : List (Line Word) → Type 0
AreValidInPlace lines = (front back : List (Line Word)) (line : Line Word)
    → lines ≡ front ++ line ∷ back → IsValidLine (is_open_after front) line

-- ---- the reading of a text

abbrev pub with_line_feed : List ℕ → List ℕ
with_line_feed piece = piece ++ 10 ∷ []

-- The pieces have no line feed. The text is the pieces, each followed by a line feed, except that the last one
-- may be without one if it is not empty.
pub record ArePieces (text : List ℕ) (pieces : List (List ℕ)) : Type 0 where
  pub no_line_feed : AllByRecursion HasNoLineFeed pieces
  pub joined : (text ≡ flat_map with_line_feed pieces)
      ⊎ ((front : List (List ℕ)) × (last : List ℕ) × (pieces ≡ front ++ last ∷ []) × (last ≢ [])
      × (text ≡ flat_map with_line_feed front ++ last))

-- The lines are what the first pieces are, one for one. A piece is read as a line in a block exactly if a block
-- is open after the lines before it.
abbrev pub AreLinesOf : List (List ℕ) → List (Line Word) → Type 0
AreLinesOf pieces lines = (front back : List (Line Word)) (line : Line Word) → lines ≡ front ++ line ∷ back
    → (piece : List ℕ) × (slice_get pieces (length front) ≡ Some piece) × IsLineAt (is_open_after front) piece line

-- the piece after these lines, which has this number, is no line: it has this fault
pub record IsNextFault (pieces : List (List ℕ)) (lines : List (Line Word)) (number : ℕ) (kind : SyntaxKind)
    : Type 0 where
  pub piece : List ℕ
  pub is_next : slice_get pieces (length lines) ≡ Some piece
  pub has_fault : HasLineFault (is_open_after lines) piece kind
  pub numbered : number ≡ length lines + 1

-- no piece that these lines are has a fault, given the lines before it
abbrev pub HaveNoFault : List (List ℕ) → List (Line Word) → Type 0
HaveNoFault pieces lines = (front back : List (Line Word)) (line : Line Word) (piece : List ℕ) (kind : SyntaxKind)
    → lines ≡ front ++ line ∷ back → slice_get pieces (length front) ≡ Some piece
    → ¬ HasLineFault (is_open_after front) piece kind

-- the line with this number is an opening, and no line after it opens or closes a block
pub record IsLastOpening (lines : List (Line Word)) (number : ℕ) : Type 0 where
  pub front : List (Line Word)
  pub verb : Word
  pub suffix : Option (List ℕ)
  pub inner : List (Line Word)
  pub split : lines ≡ front ++ Open verb suffix ∷ inner
  pub never_closed : list_all is_level inner ≡ true
  pub numbered : number ≡ length front + 1

-- every piece is a line, and the block that is opened at the line with this number is never closed
abbrev pub IsNeverClosed : List (List ℕ) → List (Line Word) → ℕ → Type 0
IsNeverClosed pieces lines number = (length lines ≡ length pieces) × IsLastOpening lines number

-- how the reading ends after these lines
abbrev pub EndsAfter : List (List ℕ) → List (Line Word) → Finish → Type 0
-- every piece is a line, and every block is closed
EndsAfter pieces lines Whole = (length lines ≡ length pieces) × (openings lines ≡ closings lines)
-- the next piece is the first that is no line; or there is no next piece, and the last block is not closed, which
-- is reported at its opening
EndsAfter pieces lines (Faulty number kind) = IsNextFault pieces lines number kind
    ⊎ (IsNeverClosed pieces lines number × (kind ≡ OpenBlock))

-- the pieces of the text are these lines up to this finish
pub record IsReading (text : List ℕ) (lines : List (Line Word)) (finish : Finish) : Type 0 where
  pub pieces : List (List ℕ)
  pub are_pieces : ArePieces text pieces
  pub are_lines : AreLinesOf pieces lines
  pub ends : EndsAfter pieces lines finish

-- the document that the bytes are, or why they are none
abbrev pub IsReadingResult : List ℕ → Result (List (Line Placed)) SyntaxFault → Type 0
IsReadingResult bytes (Ok doc) = IsText bytes × IsReading bytes (plain_lines doc) Whole
IsReadingResult bytes (Err faults.TooMany) = 16777216 < length bytes
IsReadingResult bytes (Err faults.NotUtf8) = (length bytes ≤ 16777216) × ¬ IsUtf8 bytes
IsReadingResult bytes (Err (faults.Syntax number kind)) = IsText bytes × (lines : List (Line Word))
    × IsReading bytes lines (Faulty number kind)
IsReadingResult bytes (Err faults.NoMemory) = ⊥
