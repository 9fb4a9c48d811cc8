use Rattle.std.proofs.Common.{◌≡◌, length}
use Rattle.gm_file.specs.Private.Reading.{KeepsNames}
use Rattle.gm_file.proofs.Retracted.{AreRetractedSofar}
use Rattle.gm_file.proofs.retractions.retractions_left.Given as goal

abbrev pub invariant-loop-said : goal.invariant-loop-said
invariant-loop-said l = record {
  kept : KeepsNames l.initial.names l.names;
  source : l.reader.source ≡ l.initial.reader.source;
  read : AreRetractedSofar l.reader l.said;
}

abbrev pub decreases-loop-said : goal.decreases-loop-said
decreases-loop-said l = length l.reader.rest
