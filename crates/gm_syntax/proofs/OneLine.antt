-- A text that has one reading is one line, or has one fault.
use Rattle.std.proofs.Common.{◌≡◌, Bool, List, ℕ, Option, Some, None, Result, Ok, Err, inl, inr, refl, sym, ap, ◌∙◌}
use Rattle.gm_syntax_words.specs.declared.fault.SyntaxKind.{SyntaxKind}
use Rattle.gm_syntax_words.specs.declared.fault.LineSyntaxFault.{LineSyntaxFault}
use Rattle.gm_syntax_words.specs.declared.fault.LineSyntaxFault.TheVariants as faults
use Rattle.gm_syntax_words.specs.Words.{Word}
use Rattle.gm_syntax_words.specs.Spelling.{Fault, Reads, IsSpelledBy, ending_of}
use Rattle.gm_syntax_words.specs.ReadLine.{IsOnlyReading, IsReadAs}
use Rattle.gm_syntax.specs.Document.{Line, HasLineFault, class_of}
use Rattle.gm_syntax.specs.Private.Reader.{IsOnlyLine, IsLineReadAs}
use Rattle.gm_syntax.proofs.Stable.{line_err}

-- an ending that is no fault says which comment it has
pub one_comment : (c d : Option (List ℕ)) → ending_of c ≡ ending_of d → c ≡ d
one_comment None None e = refl
one_comment (Some text) (Some other) e = cc
one_comment c d e = cc

fault_no_ending : (c : Option (List ℕ)) (kind : SyntaxKind) → Fault kind ≡ ending_of c → ⊥
fault_no_ending None kind e = cc
fault_no_ending (Some text) kind e = cc

module _ (inside : Bool) (text : List ℕ) (words : List Word) where
  -- words and perhaps a comment: the line is of their class
  module _ (comment : Option (List ℕ)) (so : IsOnlyReading text words (ending_of comment)) where
    class_is : (answer : Result (Line Word) SyntaxKind) → class_of inside words comment ≡ answer
        → (others : List Word) (other : Option (List ℕ)) → IsSpelledBy text others other
        → class_of inside others other ≡ answer
    class_is answer is others other spelled =
        let same = so.only others (ending_of other) spelled in
        rw same.0
        (rw (one_comment other comment same.1) is)

    no_lexical : (kind : SyntaxKind) (others : List Word) → Reads None text others (Fault kind) → ⊥
    no_lexical kind others reads = fault_no_ending comment kind (so.only others (Fault kind) reads).1

    pub one_line : (line : Line Word) → class_of inside words comment ≡ Ok line → IsOnlyLine inside text (Ok line)
    one_line line is = record {
      holds = record { words = words; comment = comment; spelled = so.reads; classed = is };
      only_line = λ other at. sym (class_is (Ok line) is at.words at.comment at.spelled) ∙ at.classed;
      only_fault = fault;
    }
      where
        fault : (kind : SyntaxKind) → HasLineFault inside text kind → Ok line ≡ line_err kind
        fault kind (inl has) = absurd (no_lexical kind has.0 has.1)
        fault kind (inr has) = sym (class_is (Ok line) is has.0 has.1 has.2) ∙ has.3

    pub one_misplaced : (kind : SyntaxKind) → class_of inside words comment ≡ Err kind → IsOnlyLine inside text (Err kind)
    one_misplaced kind is = record {
      holds = inr (words, comment, so.reads, is);
      only_line = λ other at. sym (class_is (Err kind) is at.words at.comment at.spelled) ∙ at.classed;
      only_fault = fault;
    }
      where
        fault : (other : SyntaxKind) → HasLineFault inside text other → line_err kind ≡ line_err other
        fault other (inl has) = absurd (no_lexical other has.0 has.1)
        fault other (inr has) = sym (class_is (Err kind) is has.0 has.1 has.2) ∙ has.3

  -- a lexical fault
  pub one_fault : (kind : SyntaxKind) → IsOnlyReading text words (Fault kind) → IsOnlyLine inside text (Err kind)
  one_fault kind so = record {
    holds = inl (words, so.reads);
    only_line = λ other at. absurd (fault_no_ending _ kind (sym (so.only at.words (ending_of at.comment) at.spelled).1));
    only_fault = fault;
  }
    where
      same : (others : List Word) (other : SyntaxKind) → Reads None text others (Fault other) → kind ≡ other
      same others other reads =
          let e = (so.only others (Fault other) reads).1 in
          cc

      fault : (other : SyntaxKind) → HasLineFault inside text other → line_err kind ≡ line_err other
      fault other (inl has) = ap line_err (same has.0 other has.1)
      fault other (inr has) = absurd (fault_no_ending has.1 kind (sym (so.only has.0 (ending_of has.1) has.2).1))

-- what is wrong with a line is its only fault; nothing is said if memory runs out
pub read_fault : (inside : Bool) (text : List ℕ) (fault : LineSyntaxFault) → IsReadAs (Err fault) text → IsLineReadAs inside text (Err fault)
read_fault inside text faults.Memory read = tt
read_fault inside text (faults.Syntax kind) read = one_fault inside text read.0 kind read.1
