use Rattle.std.proofs.Common.{length}
use denote.Text.{Utf8}
use denote.Shadow.{shadow}
use Rattle.gm_syntax.proofs.SimpleLines.{IsAfterBlanks}
use Rattle.gm_syntax.proofs.simple_line.after_blanks.Given as goal

abbrev pub invariant-loop-rest : goal.invariant-loop-rest
invariant-loop-rest l = record { utf8 : shadow (Utf8 l.rest); blanks : IsAfterBlanks l.text l.rest }

abbrev pub decreases-loop-rest : goal.decreases-loop-rest
decreases-loop-rest l = length l.rest
