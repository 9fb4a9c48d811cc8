-- The steps of a reader of lines.
use Rattle.std.proofs.Common.{◌≡◌, ℕ, ◌+◌, ◌-◌, ◌<◌, ◌≤◌, true, false, List, [], ◌∷◌, ◌++◌, length, drop, Option, Some, None, Ok, Err, inl, inr, refl, ap, subst, arith}
use Rattle.std.proofs.lemmas.List.{map_push, length-append}
use Rattle.gm_syntax_words.specs.declared.fault.LineSyntaxFault.{LineSyntaxFault}
use Rattle.gm_syntax_words.specs.declared.fault.LineSyntaxFault.TheVariants as faults
use Rattle.gm_syntax_words.specs.declared.fault.SyntaxKind.TheVariants.{OpenBlock}
use Rattle.gm_syntax_words.specs.declared.fault.SyntaxFault.TheVariants as syntax
use Rattle.gm_syntax_words.specs.Lines.{lines_of, HasNoLineFeed}
use Rattle.gm_syntax_words.specs.Tokens.{Placed, AreSlicesBetween, AreNumbered}
use Rattle.gm_syntax_words.specs.ReadLine.{fault_at}
use Rattle.gm_syntax_words.proofs.WordPlaces.{suffix_of_suffix, stand_widen}
use Rattle.gm_syntax.specs.declared.line.Line as declared
use Rattle.gm_syntax.specs.Document.{Line, after, Place}
use Rattle.gm_syntax.specs.LineViews.{line_of, plain, plain_lines, tokens_of}
use Rattle.gm_syntax.specs.Placing.{FillsLine}
use Rattle.gm_syntax.specs.Parsed.{IsParsedAs, IsFaultOrNoMemory}
use Rattle.gm_syntax.specs.Private.Reader.{IsOnlyLine, IsLineReadAs}
use Rattle.gm_syntax.specs.LineReading.{Unread, HasRead, IsReadDocument, IsNextRead}
use Rattle.gm_syntax.proofs.Places.{line_stands, lines_numbered_push}
use Rattle.gm_syntax.proofs.Filling.{lines_fill_more, lines_fill_end}
use Rattle.gm_syntax.proofs.Counting.{document_counted}
use Rattle.gm_syntax.proofs.Texts.{text_line, text_fault, text_end, text_open, number_after}

abbrev pub unread : List ℕ → List ℕ → Place → Unread
unread source rest at = record { source = source; rest = rest; at = at }

-- a line was cut off the unread text
pub record IsCut (left : Unread) (front next : List ℕ) : Type 0 where
  pub lines : lines_of left.rest ≡ front ∷ lines_of next
  pub no_line_feed : HasNoLineFeed front
  pub shorter : length next < length left.rest
  pub in_range : length front + length next ≤ length left.rest
  pub front_is : (more : List ℕ) × (left.rest ≡ front ++ more)
  pub suffix : next ≡ drop (length left.rest - length next) left.rest
  pub line_feed : 0 < length next → length left.rest ≡ length front + 1 + length next

module _ {left : Unread} {lines : List (Line Placed)} (so : HasRead left lines) where
  -- after one more line
  pub read_more : (front next : List ℕ) (l : Line Placed) (at : Place) → at ≡ after left.at (plain l) → IsCut left front next
      → IsOnlyLine left.at.inside front (Ok (plain l))
      → ((source more : List ℕ) → drop (length left.source - length left.rest) source ≡ front ++ more
      → AreSlicesBetween source (length left.source - length left.rest)
      (length left.source - length left.rest + length front) (tokens_of l))
      → AreNumbered left.at.number (tokens_of l) → FillsLine (length left.source - length left.rest) front l
      → HasRead (unread left.source next at) (lines ++ l ∷ [])
  read_more front next l at is_after cut only stands numbers fills = record {
    is_text = so.is_text;
    progress = rw (map_push plain lines l)
        (rw is_after
        (text_line so.progress front next (plain l) cut.lines cut.no_line_feed only));
    fits = omega (arith, cut.shorter, so.fits);
    suffix = suffix_of_suffix left.source left.rest next so.fits (omega (arith, cut.shorter)) so.suffix cut.suffix;
    counted = omega (arith, ap (λ p. p.number) is_after, number_after left.at (plain l), so.counted, length-append lines (l ∷ []));
    placed = line_stands left.source left.rest front next lines l so.fits cut.in_range so.suffix cut.front_is so.placed stands;
    numbered = lines_numbered_push 1 lines l so.numbered (rw (← so.counted) numbers);
    filled = lines_fill_more left.source left.rest front next lines l so.fits so.filled cut.lines cut.line_feed fills;
  }

  -- the next line has a fault
  pub read_fault : (front next : List ℕ) (fault : LineSyntaxFault) → lines_of left.rest ≡ front ∷ lines_of next → IsLineReadAs left.at.inside front (Err fault)
      → IsFaultOrNoMemory left.source (fault_at left.at.number fault)
  read_fault front next faults.Memory cut only = inr refl
  read_fault front next (faults.Syntax kind) cut only = inl (so.is_text, plain_lines lines, text_fault so.progress front next kind cut only)

  -- there is no line left, and the last block is closed
  pub read_end : lines_of left.rest ≡ [] → left.at.inside ≡ false → IsReadDocument left.source lines
  read_end none outside =
      let whole = text_end so.progress none outside in
      let fills = lines_fill_end _ _ lines so.filled none in
      record {
        parsed = (so.is_text, whole.0);
        document = whole.1;
        placed = stand_widen _ 0 _ _ _ (omega arith) so.placed;
        numbered = so.numbered;
        stand = record { fills_lines = fills; counted_lines = document_counted _ lines fills so.numbered };
      }

  -- there is no line left, and the last block is open
  pub read_open : lines_of left.rest ≡ [] → left.at.inside ≡ true → IsParsedAs left.source (Err (syntax.Syntax left.at.opened OpenBlock))
  read_open none inside = (so.is_text, plain_lines lines, text_open so.progress none inside)

-- what the result of a call is, once it is known
module _ (left : Unread) (lines : List (Line Placed)) (result : Option declared.Line) where
  pub one_more : (line : declared.Line) → result ≡ Some line → IsNextRead left lines (Ok result) → HasRead left (lines ++ line_of line ∷ [])
  one_more line is next = subst (λ (r : Option declared.Line). IsNextRead left lines (Ok r)) is next

  pub no_more : result ≡ None → IsNextRead left lines (Ok result) → IsReadDocument left.source lines
  no_more is next = subst (λ (r : Option declared.Line). IsNextRead left lines (Ok r)) is next
