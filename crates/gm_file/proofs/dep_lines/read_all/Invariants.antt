use Rattle.std.proofs.Common.{◌≡◌, length}
use Rattle.gm_file.specs.Private.Holding.{HaveIndexes}
use Rattle.gm_file.specs.Private.Reading.{KeepsNames}
use Rattle.gm_file.specs.Private.SimpleLines.{AreReadSofar}
use Rattle.gm_file.proofs.dep_lines.read_all.Given as goal

abbrev pub invariant-loop-reader : goal.invariant-loop-reader
invariant-loop-reader l = record {
  kept : KeepsNames l.initial.names l.names;
  source : l.reader.source ≡ l.fn.bytes;
  before : l.said.fields.requirements.before ≡ l.initial.said.fields.requirements.before;
  found : HaveIndexes l.said.fields;
  read : AreReadSofar l.reader l.said;
}

abbrev pub decreases-loop-reader : goal.decreases-loop-reader
decreases-loop-reader l = length l.reader.rest
