-- How `fmt` ends, computed, and that it does.
use Rattle.std.proofs.Common.{◌≡◌, ◌∙◌, List, Option, Some, None, Result, Ok, Err, ap, refl, sym}
use Rattle.std.proofs.lemmas.Option.{same_Some}
use Rattle.page_commands.specs.Document.{Line}
use Rattle.page_commands.specs.Files.{lines_in}
use Rattle.page_commands.specs.Fmt.{FmtEnds, bad_syntax, laid_out}
use Rattle.page_commands.specs.Layout.{layout}
use Rattle.page_commands.specs.Outcome.{Outcome, refusal_outcome, text_outcome}
use Rattle.page_commands.specs.Reports.{FaultPlace, main_line, syntax_place}
use Rattle.page_commands.specs.Types.SyntaxFault.{SyntaxFault}
use Rattle.page_commands.specs.Words.{Word}
use Rattle.page_commands.specs.Worlds.Formats.{Holds, LinesAreLaidOut, SyntaxIsReported, WordsAreLaidOut, World, fault_worlds, lines_worlds, words_worlds}
use Rattle.page_commands.proofs.OnLiterals.{on_literals}
use Rattle.page_commands.proofs.Rows.{all_so, placed, plain_placed}

abbrev pub place_ending : Option FaultPlace → Option Outcome
place_ending None = None
place_ending (Some place) = Some (refusal_outcome (main_line place))

abbrev ending : Result (List (Line Word)) SyntaxFault → Option Outcome
ending (Ok lines) = Some (text_outcome (layout lines))
ending (Err fault) = place_ending (syntax_place fault)

abbrev IsTold : World → Type 0
IsTold w = ending (lines_in w.0) ≡ Some w.1

told_so : (w : World) → IsTold w → Holds w
told_so (file, outcome) is = by_lines (lines_in file) refl is
  where
    by_place : (fault : SyntaxFault) (place : Option FaultPlace) → lines_in file ≡ Err fault → syntax_place fault ≡ place
        → place_ending place ≡ Some outcome → FmtEnds file outcome
    by_place fault None e at f = absurd (cc f)
    by_place fault (Some place) e at f = bad_syntax fault place e at (sym (same_Some _ _ f))

    by_lines : (r : Result (List (Line Word)) SyntaxFault) → lines_in file ≡ r → ending r ≡ Some outcome → FmtEnds file outcome
    by_lines (Ok lines) e f = laid_out (placed lines) (e ∙ ap (λ (ls : List (Line Word)). Ok ls) (sym (plain_placed lines)))
        (sym (same_Some _ _ f) ∙ ap (λ (ls : List (Line Word)). text_outcome (layout ls)) (sym (plain_placed lines)))
    by_lines (Err fault) e f = by_place fault (syntax_place fault) e refl f

pub lines_are_laid_out : LinesAreLaidOut
unfolding on_literals
lines_are_laid_out = all_so IsTold Holds told_so lines_worlds (refl, (refl, (refl, (refl, (refl, (refl, (refl, (refl, (refl, (refl, (refl, tt)))))))))))

pub words_are_laid_out : WordsAreLaidOut
unfolding on_literals
words_are_laid_out = all_so IsTold Holds told_so words_worlds (refl, (refl, (refl, (refl, (refl, (refl, (refl, tt)))))))

pub syntax_is_reported : SyntaxIsReported
unfolding on_literals
syntax_is_reported = all_so IsTold Holds told_so fault_worlds (refl, (refl, (refl, (refl, (refl, (refl, (refl, (refl, (refl, (refl, (refl, (refl, (refl, (refl, (refl, (refl, (refl, (refl, (refl, (refl, (refl, tt)))))))))))))))))))))
