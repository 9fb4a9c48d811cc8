use Rattle.std.proofs.Common.{take}
use Rattle.gm_syntax.specs.LineViews.{line_views, plain_lines}
use Rattle.gm_file.specs.Private.Reading.{KeepsNames}
use Rattle.gm_file.specs.Private.Retracting.{AreRetractionsOf}
use Rattle.gm_file.proofs.retractions.retractions_of_lines.Given as goal

abbrev pub invariant-loop-line : goal.invariant-loop-line
invariant-loop-line l = record {
  kept : KeepsNames l.initial.names l.names;
  read : AreRetractionsOf (take l.line-index (plain_lines (line_views l.lines))) l.said;
}
