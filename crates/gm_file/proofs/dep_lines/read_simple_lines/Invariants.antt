use Rattle.std.proofs.Common.{◌≡◌, ◌≤◌, length}
use Rattle.gm_file.specs.Private.Holding.{HaveIndexes}
use Rattle.gm_file.specs.Private.Reading.{KeepsNames}
use Rattle.gm_file.specs.Private.SimpleLines.{AreReadSofar, TakesSimple}
use Rattle.gm_file.proofs.dep_lines.read_simple_lines.Given as goal

abbrev pub invariant-loop-line : goal.invariant-loop-line
invariant-loop-line l = record {
  kept : KeepsNames l.initial.names l.names;
  source : l.reader.source ≡ l.initial.reader.source;
  no_longer : length l.reader.rest ≤ length l.initial.reader.rest;
  block : TakesSimple l.said;
  before : l.said.fields.requirements.before ≡ l.initial.said.fields.requirements.before;
  found : HaveIndexes l.said.fields;
  read : AreReadSofar l.reader l.said;
}

abbrev pub decreases-loop-line : goal.decreases-loop-line
decreases-loop-line l = length l.reader.rest
