use Rattle.std.proofs.Common.{◌≤◌, ◌-◌, length, take}
use Rattle.std.specs.Io.KnownBytes.{Appends}
use Rattle.gm_store_parts.proofs.Appending.{RoomLeft}
use Rattle.gm_store_parts.proofs.sinks.write_all.Given as goal

-- the first `at` bytes were appended, and the count of faults didn't fall
abbrev pub invariant-pieces : goal.invariant-pieces
invariant-pieces g l = record {
  place : l.at ≤ length l.piece;
  appended : Appends (g.S.Sink.state l.initial.sink).taken (g.S.Sink.state l.sink).taken (take l.at l.piece);
  left : RoomLeft (g.S.Sink.state l.initial.sink).room (g.S.Sink.state l.sink).room l.at;
  later : (g.S.Sink.state l.initial.sink).faults ≤ (g.S.Sink.state l.sink).faults;
}

abbrev pub decreases-pieces : goal.decreases-pieces
decreases-pieces g l = length l.piece - l.at
