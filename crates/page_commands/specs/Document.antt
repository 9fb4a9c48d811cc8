-- A copy from crates/gm_syntax/specs/Document.antt, which tools/check/headline.py writes.
use Rattle.std.specs.Prelude.{ℕ, ◌+◌, ◌&&◌, Bool, true, false, List, [], ◌∷◌, map, Option, Some, None, Result, Ok, Err, if◌then◌else◌}
use Rattle.page_commands.specs.Types.SyntaxKind.{SyntaxKind, StrayClose, NestedOpen}
use Rattle.page_commands.specs.Words.{Word, is_mark, is_bare}

-- a line without its blanks, whose words come with or without their positions
pub data Line (W : Type 0) : Type 0 where
  Blank : Line W
  Comment : List ℕ → Line W
  Open : W → Option (List ℕ) → Line W
  Close : Option (List ℕ) → Line W
  Entry : List W → Option (List ℕ) → Line W

abbrev pub map_line : {V W : Type 0} → (V → W) → Line V → Line W
map_line f Blank = Blank
map_line f (Comment text) = Comment text
map_line f (Open verb suffix) = Open (f verb) suffix
map_line f (Close suffix) = Close suffix
map_line f (Entry words suffix) = Entry (map f words) suffix

abbrev pub ends_open : List Word → Bool
ends_open [] = false
ends_open (w ∷ []) = is_mark 40 w
ends_open (w ∷ v ∷ words) = ends_open (v ∷ words)

-- two words, a bare one and an opening parenthesis
abbrev pub opens_block : List Word → Bool
opens_block (v ∷ w ∷ []) = is_bare v.kind && is_mark 40 w
opens_block words = false

abbrev pub begins_close : List Word → Bool
begins_close [] = false
begins_close (w ∷ words) = is_mark 41 w

abbrev pub is_alone : List Word → Bool
is_alone [] = true
is_alone (w ∷ words) = false

-- the line or the fault that words and a comment are; the flag says whether they are in a block
unfoldable pub class_of : Bool → List Word → Option (List ℕ) → Result (Line Word) SyntaxKind
class_of inside [] None = Ok Blank
class_of inside [] (Some text) = Ok (Comment text)
class_of false (first ∷ others) suffix =
    if opens_block (first ∷ others) then Ok (Open first suffix)
    else (if ends_open (first ∷ others) then Err NestedOpen
    else (if begins_close (first ∷ others) then Err StrayClose
    else Ok (Entry (first ∷ others) suffix)))
class_of true (first ∷ others) suffix =
    if begins_close (first ∷ others) then (if is_alone others then Ok (Close suffix) else Err StrayClose)
    else (if ends_open (first ∷ others) then Err NestedOpen
    else Ok (Entry (first ∷ others) suffix))

-- the place of a line: its number, counted from 1, whether a block is open before it, and the number of the line that
-- last opened one, or 0 if none did
pub record Place : Type 0 where
  pub number : ℕ
  pub inside : Bool
  pub opened : ℕ

-- the place of the first line
abbrev pub start : Place
start = record { number = 1; inside = false; opened = 0 }

-- the place of the next line
abbrev pub after : Place → Line Word → Place
after at Blank = record at { number = at.number + 1 }
after at (Comment text) = record at { number = at.number + 1 }
after at (Open verb suffix) = record { number = at.number + 1; inside = true; opened = at.number }
after at (Close suffix) = record at { number = at.number + 1; inside = false }
after at (Entry words suffix) = record at { number = at.number + 1 }

-- whether a block is open after a line
abbrev pub inside_after : Bool → Line Word → Bool
inside_after inside Blank = inside
inside_after inside (Comment text) = inside
inside_after inside (Open verb suffix) = true
inside_after inside (Close suffix) = false
inside_after inside (Entry words suffix) = inside
