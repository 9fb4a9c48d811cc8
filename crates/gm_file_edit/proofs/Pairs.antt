-- A document without a fault, by its lines and by pairs of directives, and a line that is put into one.
use Rattle.std.proofs.Common.{◌≡◌, Bool, true, false, List, [], ◌∷◌, ◌++◌, Option, Some, None, is_some, refl, sym, ap, ◌∙◌, inl, inr}
use Rattle.std.specs.Option.{option_map}
use Rattle.std.specs.List.{AllByRecursion, cons_option, filter_map, list_any}
use Rattle.std.proofs.lemmas.Bool.{or_cases, or_left, or_right}
use Rattle.std.proofs.lemmas.List.Elements.{filter_map-append}
use Rattle.gm_syntax_words.specs.Words.{Word}
use Rattle.gm_syntax_words.specs.Tokens.{Placed}
use Rattle.gm_syntax.specs.Document.{Line, Blank, Comment, Open, Close, Entry, IsValidLine, IsDocument, inside_after, inside_after_all}
use Rattle.gm_syntax.specs.LineViews.{plain, plain_lines}
use Rattle.gm_syntax.proofs.Changes.{AreValidFrom, lines_stand, standing_lines}
use Rattle.gm_file.specs.Directives.{Strict, Directive, LineInBlock, block_after_line, block_after_lines, directive_said, with_blocks, with_blocks_from}
use Rattle.gm_file.specs.Faults.{fault_of, is_module, item_kinds}
use Rattle.gm_file.specs.Pairwise.{IsRightAlone}
use Rattle.gm_file.proofs.Pairwise.{AreApart, AreRightApart, IsClear, apart-faultless, apart-with, faultless-apart}
use Rattle.gm_file.proofs.Snoc.{with_blocks-snoc}
use Rattle.gm_file.proofs.SimpleLines.{none-open}
use Rattle.gm_file_edit.specs.Holding.{directive_at, item_of}

abbrev pub word_of : Placed → Word
word_of t = t.word

abbrev pub Seat : Type 0
Seat = LineInBlock Placed

-- the directive that a line in its block holds
abbrev pub held_at : Seat → Option Directive
held_at seat = directive_at seat.0 seat.1

-- the directives that lines hold
abbrev pub held_in : List Seat → List Directive
held_in seats = filter_map held_at seats

-- the directives that lines hold, given the verb of the open block, if any
abbrev pub held_from : Option Placed → List (Line Placed) → List Directive
held_from block lines = held_in (with_blocks_from block lines)

-- a line can be in its place and has no fault by itself
abbrev pub IsRightLine : Seat → Type 0
IsRightLine seat = IsValidLine (is_some seat.0) (plain seat.1) × (item_kinds Strict [] (item_of seat.0 seat.1) ≡ [])

-- each line from here on is right, given the block that is open before them
abbrev pub AreRightFrom : Option Placed → List (Line Placed) → Type 0
AreRightFrom block lines = AllByRecursion IsRightLine (with_blocks_from block lines)

-- each line is right, no two directives clash, and a module is declared
pub record AreSound (seats : List Seat) : Type 0 where
  pub right : AllByRecursion IsRightLine seats
  pub apart : AreApart (held_in seats)
  pub declared : list_any is_module (held_in seats) ≡ true

-- the lines are a document without a fault: at their end no block is open
pub record IsSound (lines : List (Line Placed)) : Type 0 where
  pub lines_are : AreSound (with_blocks lines)
  pub closed : block_after_lines None lines ≡ None

-- ---- the same as a document without a fault

pub block-plain : (block : Option Placed) (line : Line Placed)
    → block_after_line (option_map word_of block) (plain line) ≡ option_map word_of (block_after_line block line)
block-plain block Blank = refl
block-plain block (Comment text) = refl
block-plain block (Open verb suffix) = refl
block-plain block (Close suffix) = refl
block-plain block (Entry words suffix) = refl

inside-plain : {inside : Bool} (block : Option Placed) (line : Line Placed) → inside ≡ is_some block
    → inside_after inside (plain line) ≡ is_some (block_after_line block line)
inside-plain block Blank e = e
inside-plain block (Comment text) e = e
inside-plain block (Open verb suffix) e = refl
inside-plain block (Close suffix) e = refl
inside-plain block (Entry words suffix) e = e

abbrev AreAlone : Option Word → List (Line Word) → Type 0
AreAlone block lines = AllByRecursion IsRightAlone (with_blocks_from block lines)

pub plain-held : (block : Option Placed) (lines : List (Line Placed))
    → filter_map (directive_said Strict) (with_blocks_from (option_map word_of block) (plain_lines lines))
    ≡ held_in (with_blocks_from block lines)
plain-held block [] = refl
plain-held block (line ∷ lines) = rw (block-plain _ _, plain-held (block_after_line block line) lines)

right-lines : {inside : Bool} (block : Option Placed) (lines : List (Line Placed)) → inside ≡ is_some block
    → AreValidFrom inside (plain_lines lines) → inside_after_all inside (plain_lines lines) ≡ false
    → AreAlone (option_map word_of block) (plain_lines lines) → AreRightFrom block lines × (block_after_lines block lines ≡ None)
right-lines block [] same stand ends alone = (tt, none-open _ (sym same ∙ ends))
right-lines {inside} block (line ∷ lines) same stand ends alone =
    let rest = right-lines (block_after_line block line) lines (inside-plain block line same) stand.1 ends
    (rw (block-plain block line) at alone.1) in
    (((rw same at stand.0, alone.0), rest.0), rest.1)

lines-right : {inside : Bool} (block : Option Placed) (lines : List (Line Placed)) → inside ≡ is_some block
    → AreRightFrom block lines → block_after_lines block lines ≡ None
    → (AreValidFrom inside (plain_lines lines) × (inside_after_all inside (plain_lines lines) ≡ false))
    × AreAlone (option_map word_of block) (plain_lines lines)
lines-right block [] same right closed = ((tt, same ∙ ap is_some closed), tt)
lines-right {inside} block (line ∷ lines) same right closed =
    let rest = lines-right (block_after_line block line) lines (inside-plain block line same) right.1 closed in (
      ((rw same right.0.0, rest.0.0), rest.0.1),
      (right.0.1, rw (block-plain block line) rest.1),
    )

pub document-sound : (lines : List (Line Placed)) → IsDocument (plain_lines lines) → fault_of Strict (plain_lines lines) ≡ None → IsSound lines
document-sound lines document none =
    let are : AreRightApart (with_blocks (plain_lines lines)) = faultless-apart _ none in
    let stand = lines_stand _ _ document in
    let right = right-lines None _ refl stand.0 stand.1 are.alone in
    record {
      lines_are = record {
        right = right.0;
        apart = rw (plain-held None _) at are.apart;
        declared = rw (plain-held None _) at are.declared;
      };
      closed = right.1;
    }

pub sound-document : {lines : List (Line Placed)} → IsSound lines → IsDocument (plain_lines lines) × (fault_of Strict (plain_lines lines) ≡ None)
sound-document {lines} sound =
    let are = sound.lines_are in
    let plain_right = lines-right None _ refl are.right sound.closed in (
      standing_lines _ _ plain_right.0.0 plain_right.0.1,
      apart-faultless _ (record {
        alone = plain_right.1;
        apart = rw (plain-held None _) are.apart;
        declared = rw (plain-held None _) are.declared;
      }),
    )

-- ---- a line that is put in

right-with : (xs : List Seat) (seat : Seat) (ys : List Seat) → IsRightLine seat → AllByRecursion IsRightLine (xs ++ ys)
    → AllByRecursion IsRightLine (xs ++ seat ∷ ys)
right-with [] seat ys right all = (right, all)
right-with (x ∷ xs) seat ys right all = (all.0, right-with xs seat ys right all.1)

any-with : (p : Directive → Bool) (xs : List Directive) (o : Option Directive) (ys : List Directive)
    → list_any p (xs ++ ys) ≡ true → list_any p (xs ++ cons_option o ys) ≡ true
any-with p xs None ys some = some
any-with p [] (Some d) ys some = or_right (p d) _ some
any-with p (x ∷ xs) (Some d) ys some = elim (or_cases (p x) _ some) [
  | inl here ↦ or_left _ (list_any p (xs ++ d ∷ ys)) here
  | inr there ↦ or_right (p x) _ (any-with p xs (Some d) ys there)
]

apart-put : (xs : List Directive) (o : Option Directive) (ys : List Directive) → IsClear o (xs ++ ys) → AreApart (xs ++ ys) → AreApart (xs ++ cons_option o ys)
apart-put xs None ys clear apart = apart
apart-put xs (Some d) ys clear apart = apart-with _ _ _ clear apart

-- the lines before and after a place, and one more there
pub with-line : (xs : List Seat) (seat : Seat) (ys : List Seat) → IsRightLine seat
    → IsClear (held_at seat) (held_in xs ++ held_in ys) → AreSound (xs ++ ys) → AreSound (xs ++ seat ∷ ys)
with-line xs seat ys right clear are =
    let without : held_in (xs ++ ys) ≡ held_in xs ++ held_in ys = filter_map-append held_at _ _ in
    let whole : held_in (xs ++ seat ∷ ys) ≡ held_in xs ++ cons_option (held_at seat) (held_in ys) = filter_map-append held_at _ _ in
    record {
      right = right-with _ _ _ right are.right;
      apart = rw whole (apart-put _ _ _ clear (rw without at are.apart));
      declared = rw whole (any-with is_module (held_in xs) (held_at seat) (held_in ys) (rw without at are.declared));
    }

pub block-append : (block : Option Placed) (front back : List (Line Placed))
    → block_after_lines block (front ++ back) ≡ block_after_lines (block_after_lines block front) back
block-append block [] back = refl
block-append block (line ∷ front) back = block-append (block_after_line block line) front back

-- a line that leaves the open block open, between the lines of a file
pub put-line : (front back : List (Line Placed)) (line : Line Placed) → IsRightLine (block_after_lines None front, line)
    → block_after_line (block_after_lines None front) line ≡ block_after_lines None front
    → IsClear (directive_at (block_after_lines None front) line) (held_in (with_blocks (front ++ back)))
    → IsSound (front ++ back) → IsSound (front ++ line ∷ back)
put-line front back line right level clear sound =
    let block = block_after_lines None front in
    let xs : List Seat = with_blocks_from None front in
    let ys : List Seat = with_blocks_from block back in
    let old : with_blocks (front ++ back) ≡ xs ++ ys = with_blocks-snoc None front back in
    let new : with_blocks (front ++ line ∷ back) ≡ xs ++ (block, line) ∷ ys = rw level at (with_blocks-snoc None front (line ∷ back)) in
    record {
      lines_are = rw new (with-line xs (block, line) ys right (rw (old, filter_map-append held_at xs ys) at clear) (rw old at sound.lines_are));
      closed = rw (block-append None front (line ∷ back), level, ← block-append None front back) sound.closed;
    }
