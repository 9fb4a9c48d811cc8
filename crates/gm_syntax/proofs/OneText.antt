-- A text has one reading: each piece is one line or has one fault.
use Rattle.std.proofs.Common.{◌≡◌, ℕ, Bool, List, [], ◌∷◌, length, Option, Some, None, Result, Ok, Err, refl, sym, ap, ◌∙◌, inl, inr}
use Rattle.std.specs.Prelude.{◌⊎◌, slice_get}
use Rattle.std.proofs.lemmas.Bool.{cases_Bool, true≢false}
use Rattle.gm_syntax_words.specs.declared.fault.SyntaxKind.{SyntaxKind}
use Rattle.gm_syntax_words.specs.declared.fault.SyntaxKind.TheVariants.{OpenBlock}
use Rattle.gm_syntax_words.specs.declared.fault.SyntaxFault.{SyntaxFault}
use Rattle.gm_syntax_words.specs.declared.fault.SyntaxFault.TheVariants as faults
use Rattle.gm_syntax_words.specs.Words.{Word}
use Rattle.gm_syntax_words.specs.Tokens.{Placed}
use Rattle.gm_syntax_words.specs.Lines.{lines_of}
use Rattle.gm_syntax_words.specs.Spelling.{Fault, Reads, IsSpelledBy}
use Rattle.gm_syntax.specs.Document.{Line, Finish, Whole, Faulty, class_of, IsLineAt, HasLineFault, ReadsLines, start, after, Place}
use Rattle.gm_syntax.specs.Parsed.{IsParsedAs}
use Rattle.gm_syntax.specs.Reader.{IsOnlyText}
use Rattle.gm_syntax.specs.Documents.{HaveNoFault, IsNeverClosed, IsReading, IsReadingResult}
use Rattle.gm_syntax.proofs.Stable.{same_ok, same_err, not_ok, class_is}
use Rattle.gm_syntax.proofs.OneReading.{one_spelling, one_fault, never_both, spelled_or_faulty}
use Rattle.gm_syntax.proofs.TextPieces.{pieces_lines}
use Rattle.gm_syntax.proofs.Readings.{reading_of, reads_as, some_same}

-- ---- one piece

class_same : (inside : Bool) (text : List ℕ) (words others : List Word) (comment other : Option (List ℕ))
    → IsSpelledBy text words comment → IsSpelledBy text others other
    → class_of inside words comment ≡ class_of inside others other
class_same inside text words others comment other s t =
    let e = one_spelling text words others comment other s t in
    ap (λ ws. class_of inside ws comment) e.0 ∙ ap (class_of inside others) e.1

pub one_line_at : (inside : Bool) (text : List ℕ) (line other : Line Word) → IsLineAt inside text line
    → IsLineAt inside text other → line ≡ other
one_line_at inside text line other a b =
    same_ok line other (sym a.classed ∙ class_same inside text a.words b.words _ _ a.spelled b.spelled ∙ b.classed)

pub one_fault_at : (inside : Bool) (text : List ℕ) (kind other : SyntaxKind) → HasLineFault inside text kind
    → HasLineFault inside text other → kind ≡ other
one_fault_at inside text kind other a b =
    elim a [
      | inl f ↦ elim b [
        | inl g ↦ one_fault text kind other f g
        | inr t ↦ absurd (never_both text (t.0, t.1, t.2) (kind, f))
      ]
      | inr s ↦ elim b [
        | inl g ↦ absurd (never_both text (s.0, s.1, s.2) (other, g))
        | inr t ↦ same_err kind other (sym s.3 ∙ class_same inside text s.0 t.0 s.1 t.1 s.2 t.2 ∙ t.3)
      ]
    ]

pub not_both_at : (inside : Bool) (text : List ℕ) (line : Line Word) (kind : SyntaxKind) → IsLineAt inside text line
    → ¬ HasLineFault inside text kind
not_both_at inside text line kind a f =
    elim f [
      | inl g ↦ never_both text (a.words, a.comment, a.spelled) (kind, g)
      | inr s ↦ not_ok kind line (sym s.3 ∙ class_same inside text s.0 a.words s.1 _ s.2 a.spelled ∙ a.classed)
    ]

pub either_at : (inside : Bool) (text : List ℕ)
    → ((line : Line Word) × IsLineAt inside text line) ⊎ ((kind : SyntaxKind) × HasLineFault inside text kind)
either_at inside text =
    elim (spelled_or_faulty text) [
      | inl s ↦ by_class s.0 s.1 s.2 (class_of inside s.0 s.1) refl
      | inr f ↦ inr (f.0, inl f.1)
    ]
  where
    by_class : (words : List Word) (comment : Option (List ℕ)) → IsSpelledBy text words comment
        → (c : Result (Line Word) SyntaxKind) → class_of inside words comment ≡ c
        → ((line : Line Word) × IsLineAt inside text line) ⊎ ((kind : SyntaxKind) × HasLineFault inside text kind)
    by_class words comment s (Ok line) e = inl (line, record { words = words; comment = comment; spelled = s; classed = e })
    by_class words comment s (Err kind) e = inr (kind, inr (words, comment, s, e))

-- an open block is the fault of no single line

no_open_block_lexical : (before : Option Word) (text : List ℕ) (words : List Word)
    → Reads before text words (Fault OpenBlock) → ⊥
no_open_block_lexical before text [] r = r.ends
no_open_block_lexical before text (w ∷ words) r = no_open_block_lexical _ r.0 words r.2

no_open_block_class : (inside : Bool) (words : List Word) (comment : Option (List ℕ))
    → class_of inside words comment ≡ Err OpenBlock → ⊥
no_open_block_class inside words comment e = (rw e at (class_is inside words comment)) refl

pub no_open_block_at : (inside : Bool) (text : List ℕ) → ¬ HasLineFault inside text OpenBlock
no_open_block_at inside text f =
    elim f [
      | inl g ↦ no_open_block_lexical None text g.0 g.1
      | inr s ↦ no_open_block_class inside s.0 s.1 s.3
    ]

-- ---- all pieces

some_walk : (at : Place) (texts : List (List ℕ))
    → (lines : List (Line Word)) × (f : Finish) × ReadsLines at texts lines f
some_walk at [] =
    elim (cases_Bool at.inside) [
      | inl i ↦ ([], Faulty at.opened OpenBlock, (i, refl, refl))
      | inr o ↦ ([], Whole, o)
    ]
some_walk at (t ∷ ts) =
    elim (either_at at.inside t) [
      | inl l ↦ let more = some_walk (after at l.0) ts in (l.0 ∷ more.0, more.1, (l.1, more.2))
      | inr k ↦ ([], Faulty at.number k.0, (refl, k.1))
    ]

one_walk : (at : Place) (texts : List (List ℕ)) (lines others : List (Line Word)) (f g : Finish)
    → ReadsLines at texts lines f → ReadsLines at texts others g → (others ≡ lines) × (g ≡ f)
one_walk at [] [] [] Whole Whole r s = (refl, refl)
one_walk at [] [] [] Whole (Faulty n k) r s = absurd (true≢false (sym s.0 ∙ r))
one_walk at [] [] [] (Faulty n k) Whole r s = absurd (true≢false (sym r.0 ∙ s))
one_walk at [] [] [] (Faulty n k) (Faulty m j) r s =
    (refl, rw (s.1, r.1, s.2, r.2) refl)
one_walk at [] [] (m ∷ others) f g r s = absurd s
one_walk at [] (l ∷ lines) others f g r s = absurd r
one_walk at (t ∷ ts) [] others Whole g r s = absurd r
one_walk at (t ∷ ts) lines [] f Whole r s = absurd s
one_walk at (t ∷ ts) [] [] (Faulty n k) (Faulty m j) r s =
    (refl, rw (s.0, r.0, one_fault_at at.inside t j k s.1 r.1) refl)
one_walk at (t ∷ ts) [] (m ∷ others) (Faulty n k) g r s = absurd (not_both_at at.inside t m k s.0 r.1)
one_walk at (t ∷ ts) (l ∷ lines) [] f (Faulty m j) r s = absurd (not_both_at at.inside t l j r.0 s.1)
one_walk at (t ∷ ts) (l ∷ lines) (m ∷ others) f g r s =
    let same = one_line_at at.inside t m l s.0 r.0 in
    let more = one_walk (after at l) ts lines others f g r.1 (rw (← same) s.1) in
    (rw (same, more.0) refl, more.1)

pub some_reading : (text : List ℕ) → (lines : List (Line Word)) × (f : Finish) × IsReading text lines f
some_reading text = let w = some_walk start (lines_of text) in (w.0, w.1, reading_of text w.0 w.1 w.2)

pub one_reading_of : (text : List ℕ) (lines others : List (Line Word)) (f g : Finish) → IsReading text lines f
    → IsReading text others g → (others ≡ lines) × (g ≡ f)
one_reading_of text lines others f g r s =
    one_walk start _ lines others f g (reads_as text lines f r) (reads_as text others g s)

-- ---- which fault is reported

pub no_fault_before : (text : List ℕ) (lines : List (Line Word)) (f : Finish) → IsReading text lines f
    → HaveNoFault (lines_of text) lines
no_fault_before text lines f r front back line piece kind e at =
    let h = r.are_lines front back line e in
    let here : slice_get (lines_of text) (length front) ≡ Some h.0 =
    rw (← pieces_lines text r.pieces r.are_pieces) h.1 in
    not_both_at _ piece line kind
    (rw (← (some_same h.0 piece (sym here ∙ at))) h.2)

pub never_closed : (text : List ℕ) (lines : List (Line Word)) (number : ℕ)
    → IsReading text lines (Faulty number OpenBlock) → IsNeverClosed (lines_of text) lines number
never_closed text lines number r =
    elim r.ends [
      | inl s ↦ absurd (no_open_block_at _ s.piece s.has_fault)
      | inr s ↦ (rw (s.0.0, pieces_lines text _ r.are_pieces) refl, s.0.1)
    ]

-- ---- the results of reading bytes

only_text : (text : List ℕ) (lines : List (Line Word)) (f : Finish) → IsReading text lines f → IsOnlyText text lines f
only_text text lines f r =
    record { reads = reads_as text lines f r; only = λ others g s. one_walk start _ lines others f g (reads_as text lines f r) s }

pub parsed_reading : (bytes : List ℕ) (answer : Result (List (Line Placed)) SyntaxFault) → IsParsedAs bytes answer
    → IsReadingResult bytes answer
parsed_reading bytes (Ok doc) h = (h.0, reading_of bytes _ Whole h.1.reads)
parsed_reading bytes (Err (faults.Syntax number kind)) h =
    (h.0, h.1, reading_of bytes h.1 _ h.2.reads)
parsed_reading bytes answer h = h

pub reading_parsed : (bytes : List ℕ) (answer : Result (List (Line Placed)) SyntaxFault)
    → IsReadingResult bytes answer → IsParsedAs bytes answer
reading_parsed bytes (Ok doc) h = (h.0, only_text bytes _ Whole h.1)
reading_parsed bytes (Err (faults.Syntax number kind)) h = (h.0, h.1, only_text bytes h.1 _ h.2)
reading_parsed bytes answer h = h
