use Rattle.std.proofs.Common.{◌≡◌, take}
use Rattle.gm_syntax.specs.LineViews.{line_views, plain_lines}
use Rattle.gm_file.specs.Private.DepLines.{AreDepLines}
use Rattle.gm_file.specs.Private.Holding.{HaveIndexes}
use Rattle.gm_file.specs.Private.Reading.{KeepsNames}
use Rattle.gm_file.proofs.dep_lines.read_document.Given as goal

abbrev pub invariant-loop-n : goal.invariant-loop-n
invariant-loop-n l = record {
  kept : KeepsNames l.initial.names l.names;
  before : l.said.fields.requirements.before ≡ l.initial.said.fields.requirements.before;
  found : HaveIndexes l.said.fields;
  read : AreDepLines (take l.n (plain_lines (line_views l.lines))) l.said;
}
