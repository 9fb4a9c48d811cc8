-- How `edit` ends, computed, and that it does.
use Rattle.std.proofs.Common.{◌≡◌, ◌∙◌, ℕ, List, Option, Some, None, Result, Ok, Err, ap, refl, sym}
use Rattle.std.specs.List.{filter_map}
use Rattle.std.proofs.lemmas.Option.{same_Some}
use Rattle.page_commands.specs.Directives.{Strict}
use Rattle.page_commands.specs.Document.{Line}
use Rattle.page_commands.specs.Edit.{EditEnds, applied, bad_main, edits_outcome, lines_after_all, refusals_from}
use Rattle.page_commands.specs.Edits.{edit_in}
use Rattle.page_commands.specs.Faults.{Fault, fault_of}
use Rattle.page_commands.specs.Files.{lines_in}
use Rattle.page_commands.specs.Outcome.{Outcome, refusal_outcome}
use Rattle.page_commands.specs.Reports.{main_line}
use Rattle.page_commands.specs.Types.Misreading as misreading
use Rattle.page_commands.specs.Types.SyntaxFault.{NoMemory, NotUtf8, Syntax, SyntaxFault, TooMany}
use Rattle.page_commands.specs.Words.{Word}
use Rattle.page_commands.specs.Worlds.Edits.{DirectivesAreDropped, DirectivesAreReported, Holds, OperationsAreRefused, OthersAreSet, ReplacesAreReported, ReplacesAreSet, RequirementsAreSet, World, drop_worlds, fault_worlds, other_worlds, refused_worlds, replace_fault_worlds, replace_worlds, require_worlds}
use Rattle.page_commands.proofs.OnLiterals.{on_literals}
use Rattle.page_commands.proofs.Rows.{all_so, placed, plain_placed}

module _ (texts : List (List ℕ)) where
  abbrev fault_ending : List (Line Word) → Option Fault → Outcome
  fault_ending lines None = edits_outcome (refusals_from 1 texts) (lines_after_all (filter_map edit_in texts) (placed lines))
  fault_ending lines (Some fault) = refusal_outcome (main_line (fault.0, misreading.Directive fault.1))

  abbrev ending : Result (List (Line Word)) SyntaxFault → Option Outcome
  ending (Ok lines) = Some (fault_ending lines (fault_of Strict lines))
  ending (Err NoMemory) = None
  ending (Err TooMany) = Some (refusal_outcome (main_line (0, misreading.TooMany)))
  ending (Err NotUtf8) = Some (refusal_outcome (main_line (0, misreading.NotUtf8)))
  ending (Err (Syntax number kind)) = Some (refusal_outcome (main_line (number, misreading.Syntax kind)))

  module _ (file : List ℕ) (outcome : Outcome) where
    by_fault : (lines : List (Line Word)) (fault : Option Fault) → lines_in file ≡ Ok lines → fault_of Strict lines ≡ fault
        → fault_ending lines fault ≡ outcome → EditEnds texts file outcome
    by_fault lines None e none f = applied (placed lines)
        (e ∙ ap (λ (ls : List (Line Word)). Ok ls) (sym (plain_placed lines)), ap (fault_of Strict) (plain_placed lines) ∙ none) (search f)
    by_fault lines (Some fault) e at f = bad_main (fault.0, misreading.Directive fault.1)
        (placed lines, e ∙ ap (λ (ls : List (Line Word)). Ok ls) (sym (plain_placed lines)), ap (fault_of Strict) (plain_placed lines) ∙ at) (search f)

    by_lines : (r : Result (List (Line Word)) SyntaxFault) → lines_in file ≡ r → ending r ≡ Some outcome → EditEnds texts file outcome
    by_lines (Ok lines) e f = by_fault lines (fault_of Strict lines) e refl (same_Some _ _ f)
    by_lines (Err NoMemory) e f = absurd (cc f)
    by_lines (Err TooMany) e f = bad_main (0, misreading.TooMany) (refl, e) (search (same_Some _ _ f))
    by_lines (Err NotUtf8) e f = bad_main (0, misreading.NotUtf8) (refl, e) (search (same_Some _ _ f))
    by_lines (Err (Syntax number kind)) e f = bad_main (number, misreading.Syntax kind) e (search (same_Some _ _ f))

abbrev pub IsTold : World → Type 0
IsTold w = ending w.0 (lines_in w.1) ≡ Some w.2

pub told_so : (w : World) → IsTold w → Holds w
told_so (texts, file, outcome) is = by_lines texts file outcome (lines_in file) refl is

pub requirements_are_set : RequirementsAreSet
unfolding on_literals
requirements_are_set = all_so IsTold Holds told_so require_worlds (refl, (refl, (refl, (refl, (refl, (refl, (refl, (refl, tt))))))))

pub directives_are_dropped : DirectivesAreDropped
unfolding on_literals
directives_are_dropped = all_so IsTold Holds told_so drop_worlds (refl, (refl, (refl, (refl, (refl, (refl, (refl, (refl, (refl, (refl, (refl, (refl, (refl, (refl, (refl, (refl, (refl, tt)))))))))))))))))

pub replaces_are_set : ReplacesAreSet
unfolding on_literals
replaces_are_set = all_so IsTold Holds told_so replace_worlds (refl, (refl, (refl, (refl, (refl, (refl, (refl, (refl, (refl, (refl, (refl, (refl, (refl, tt)))))))))))))

pub others_are_set : OthersAreSet
unfolding on_literals
others_are_set = all_so IsTold Holds told_so other_worlds (refl, (refl, (refl, (refl, (refl, (refl, (refl, (refl, (refl, (refl, (refl, (refl, (refl, (refl, (refl, tt)))))))))))))))

pub operations_are_refused : OperationsAreRefused
unfolding on_literals
operations_are_refused = all_so IsTold Holds told_so refused_worlds (refl, (refl, (refl, (refl, (refl, (refl, (refl, (refl, (refl, (refl, (refl, (refl, (refl, (refl, (refl, (refl, (refl, (refl, (refl, (refl, (refl, (refl, (refl, (refl, (refl, (refl, (refl, (refl, tt))))))))))))))))))))))))))))

pub directives_are_reported : DirectivesAreReported
unfolding on_literals
directives_are_reported = all_so IsTold Holds told_so fault_worlds (refl, (refl, (refl, (refl, (refl, (refl, (refl, (refl, (refl, (refl, (refl, (refl, (refl, (refl, (refl, (refl, (refl, (refl, (refl, tt)))))))))))))))))))

pub replaces_are_reported : ReplacesAreReported
unfolding on_literals
replaces_are_reported = all_so IsTold Holds told_so replace_fault_worlds (refl, (refl, (refl, (refl, (refl, (refl, (refl, (refl, (refl, (refl, (refl, (refl, (refl, (refl, (refl, (refl, (refl, (refl, (refl, (refl, (refl, (refl, (refl, (refl, (refl, (refl, (refl, (refl, (refl, (refl, (refl, (refl, (refl, tt)))))))))))))))))))))))))))))))))
