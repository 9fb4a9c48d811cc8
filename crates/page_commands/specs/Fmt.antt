-- A copy from crates/gomod_outcomes/specs/Fmt.antt, which tools/check/headline.py writes.
use Rattle.std.specs.Prelude.{◌≡◌, ℕ, List, Ok, Err, Some}
use Rattle.page_commands.specs.Types.SyntaxFault.{SyntaxFault}
use Rattle.page_commands.specs.Tokens.{Placed}
use Rattle.page_commands.specs.Document.{Line}
use Rattle.page_commands.specs.Layout.{layout}
use Rattle.page_commands.specs.LineViews.{plain_lines}
use Rattle.page_commands.specs.Files.{IsParsedAs}
use Rattle.page_commands.specs.Reports.{FaultPlace, main_line, syntax_place}
use Rattle.page_commands.specs.Outcome.{Outcome, text_outcome, refusal_outcome}

-- How `fmt FILE` ends over the bytes of the file, if memory doesn't run out: the syntax fault is reported, or the
-- layout of the document is printed.
pub data FmtEnds (file : List ℕ) (outcome : Outcome) : Type 0 where
  bad_syntax : (fault : SyntaxFault) (place : FaultPlace) → IsParsedAs file (Err fault)
      → syntax_place fault ≡ Some place → outcome ≡ refusal_outcome (main_line place) → FmtEnds file outcome
  laid_out : (lines : List (Line Placed)) → IsParsedAs file (Ok lines)
      → outcome ≡ text_outcome (layout (plain_lines lines)) → FmtEnds file outcome
