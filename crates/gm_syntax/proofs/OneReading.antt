-- Each line has one reading: one spelling, or one lexical fault.
use Rattle.std.proofs.Common.{◌≡◌, ℕ, zero, suc, ◌<◌, ◌≤◌, Bool, false, List, [], length, drop, Option, Some, None, refl, sym, ◌∙◌, arith, inl, inr, length-drop}
use Rattle.std.specs.Prelude.{◌⊎◌}
use Rattle.gm_syntax_words.specs.declared.fault.SyntaxKind.{SyntaxKind}
use Rattle.gm_syntax_words.specs.declared.scan.Piece.{Piece}
use Rattle.gm_syntax_words.specs.declared.scan.Piece.TheVariants as piece
use Rattle.gm_syntax_words.specs.Words.{Word, is_bare}
use Rattle.gm_syntax_words.specs.Spelling.{Ending, Nothing, Comment, Fault, IsSpelledBy, HasLexicalFault, IsSpelled, IsFaulty, ending_of}
use Rattle.gm_syntax_words.specs.Private.Scan.{piece_of, trim_end}
use Rattle.gm_syntax_words.specs.ReadLine.{IsOnlyReading}
use Rattle.gm_syntax_words.proofs.Progress.{Progress, progress_start, progress_end, progress_comment, progress_fault, progress_blank, progress_word, blank_positive, word_positive, word_in_range}
use Rattle.gm_syntax.proofs.OneLine.{one_comment}

record OneReading (line : List ℕ) : Type 0 where
  pub words : List Word
  pub ending : Ending
  pub only : IsOnlyReading line words ending

from_piece : (n : ℕ) (line rest : List ℕ) (words : List Word) (after_bare : Bool) (p : Piece) → length rest ≤ n
    → Progress line words after_bare rest → piece_of after_bare rest ≡ p
    → ((other : List ℕ) (more : List Word) (b : Bool) → length other < length rest → Progress line more b other → OneReading line) → OneReading line
from_piece n line rest words after_bare piece.End le p e later = record { words = words; ending = Nothing; only = progress_end p e }
from_piece n line rest words after_bare piece.Blank le p e later =
    later (drop 1 rest) words false (omega (arith, length-drop 1 rest, blank_positive p e)) (progress_blank p e)
from_piece n line rest words after_bare piece.Comment le p e later = record { words = words; ending = Comment (trim_end rest); only = progress_comment p e }
from_piece n line rest words after_bare (piece.Word kind m) le p e later =
    later (drop m rest) _ (is_bare kind) (omega (
      arith,
      length-drop m rest,
      word_positive p e,
      word_in_range p e,
    )) (progress_word p e)
from_piece n line rest words after_bare (piece.Fault kind) le p e later = record { words = words; ending = Fault kind; only = progress_fault p kind e }

-- since the rest of the line has only one reading, so has the line
from_rest : (n : ℕ) (line rest : List ℕ) (words : List Word) (after_bare : Bool) → length rest ≤ n → Progress line words after_bare rest → OneReading line
from_rest zero line rest words after_bare le p = from_piece zero line rest words _ _
    le p refl (λ other more b lt q. absurd (omega arith))
from_rest (suc n) line rest words after_bare le p = from_piece (suc n) line rest words _
    _ le p refl (λ other more b lt q. from_rest n line other more b (omega arith) q)

one_reading : (line : List ℕ) → OneReading line
one_reading line = from_rest (length line) line line [] false (omega arith) (progress_start line)

pub one_spelling : (line : List ℕ) (words others : List Word) (comment other : Option (List ℕ))
    → IsSpelledBy line words comment → IsSpelledBy line others other → (words ≡ others) × (comment ≡ other)
one_spelling line words others comment other s t =
    let r = one_reading line in
    let a = r.only.only words (ending_of comment) s in
    let b = r.only.only others (ending_of other) t in
    (a.0 ∙ sym b.0, one_comment comment other (a.1 ∙ sym b.1))

fault_same : (k j : SyntaxKind) → Fault k ≡ Fault j → k ≡ j
fault_same k j e = cc

pub one_fault : (line : List ℕ) (kind other : SyntaxKind) → HasLexicalFault line kind → HasLexicalFault line other → kind ≡ other
one_fault line kind other s t =
    let r = one_reading line in
    fault_same kind other ((r.only.only s.0 (Fault kind) s.1).1 ∙ sym (r.only.only t.0 (Fault other) t.1).1)

not_end : (c : Option (List ℕ)) (k : SyntaxKind) → ending_of c ≡ Fault k → ⊥
not_end None k e = cc
not_end (Some t) k e = cc

pub never_both : (line : List ℕ) → IsSpelled line → ¬ IsFaulty line
never_both line s f =
    let r = one_reading line in
    not_end s.1 f.0 ((r.only.only s.0 (ending_of s.1) s.2).1 ∙ sym (r.only.only f.1.0 (Fault f.0) f.1.1).1)

pub spelled_or_faulty : (line : List ℕ) → IsSpelled line ⊎ IsFaulty line
spelled_or_faulty line = by_ending _ _ (one_reading line).only
  where
    by_ending : (words : List Word) (e : Ending) → IsOnlyReading line words e → IsSpelled line ⊎ IsFaulty line
    by_ending words Nothing o = inl (words, None, o.reads)
    by_ending words (Comment t) o = inl (words, Some t, o.reads)
    by_ending words (Fault k) o = inr (k, (words, o.reads))
