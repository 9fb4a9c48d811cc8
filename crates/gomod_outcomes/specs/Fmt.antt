-- How `fmt` ends.
use Rattle.std.specs.Prelude.{◌≡◌, ℕ, List, Ok, Err, Some}
use Rattle.gm_syntax_words.specs.declared.fault.SyntaxFault.{SyntaxFault}
use Rattle.gm_syntax_words.specs.Tokens.{Placed}
use Rattle.gm_syntax.specs.Document.{Line}
use Rattle.gm_syntax.specs.Layout.{layout}
use Rattle.gm_syntax.specs.LineViews.{plain_lines}
use Rattle.gm_syntax.specs.Parsed.{IsParsedAs}
use Rattle.gomod_texts.specs.Reports.{FaultPlace, main_line, syntax_place}
use Rattle.gomod_texts.specs.Outcome.{Outcome, text_outcome, refusal_outcome}

-- How `fmt FILE` ends over the bytes of the file, if memory doesn't run out: the syntax fault is reported, or the
-- layout of the document is printed.
pub data FmtEnds (file : List ℕ) (outcome : Outcome) : Type 0 where
  bad_syntax : (fault : SyntaxFault) (place : FaultPlace) → IsParsedAs file (Err fault)
      → syntax_place fault ≡ Some place → outcome ≡ refusal_outcome (main_line place) → FmtEnds file outcome
  laid_out : (lines : List (Line Placed)) → IsParsedAs file (Ok lines)
      → outcome ≡ text_outcome (layout (plain_lines lines)) → FmtEnds file outcome
