-- Lines of a main file, computed.
use Rattle.std.proofs.Common.{◌≡◌, ◌∙◌, List, Option, Some, None, Result, Ok, Err, ap, codes, refl}
use Rattle.page_commands.specs.Directives.{Strict}
use Rattle.page_commands.specs.Document.{Line}
use Rattle.page_commands.specs.Faults.{Fault, fault_of}
use Rattle.page_commands.specs.Misreading.{IsMisread}
use Rattle.page_commands.specs.Types.DirectiveKind.{BadGo}
use Rattle.page_commands.specs.Types.Misreading as misreading
use Rattle.page_commands.specs.Types.SyntaxFault.{SyntaxFault}
use Rattle.page_commands.specs.Words.{Word}
use Rattle.page_commands.specs.Worlds.Edits.{Holds}
use Rattle.page_commands.specs.Worlds.Lines.{LinesAreEdited, LinesAreTold, line_worlds}
use Rattle.page_commands.proofs.Edits.{IsTold, told_so}
use Rattle.page_commands.proofs.OnLiterals.{on_literals}
use Rattle.page_commands.proofs.Rows.{all_so}

pub lines_are_edited : LinesAreEdited
unfolding on_literals
lines_are_edited = all_so IsTold Holds told_so line_worlds (refl, (refl, (refl, (refl, (refl, (refl, (refl, (refl, tt))))))))

abbrev fault_in : Result (List (Line Word)) SyntaxFault → Option Fault
fault_in (Ok lines) = fault_of Strict lines
fault_in (Err fault) = None

right : IsMisread Strict (codes "module m\n") 1 (misreading.Directive BadGo) → ⊥
unfolding on_literals
right (lines, parsed, at) = (let wrong : None ≡ Some (1, BadGo) = ap fault_in parsed ∙ at in cc wrong)

pub lines_are_told : LinesAreTold
unfolding on_literals
lines_are_told = record {
  right = right;
  arrows = refl;
  closing = refl;
  opening = refl;
  arrow_kinds = refl;
  arrow_value = refl;
  same = refl;
  brackets = refl;
  no_place = refl;
  no_line = refl;
  unclosed = refl;
  nested = refl;
  marked = refl;
  blank = refl;
}
