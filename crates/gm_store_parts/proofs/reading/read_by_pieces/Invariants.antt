use Rattle.std.proofs.Common.{◌≡◌, ◌<◌, ◌≤◌, ◌-◌, length, vec_len}
use Rattle.std.specs.Io.KnownBytes.{Consumes}
use Rattle.gm_store_parts.proofs.reading.read_by_pieces.Given as goal

-- the bytes read so far are those that the reader has yielded
abbrev pub invariant-fill : goal.invariant-fill
invariant-fill g l = record {
  given : Consumes (g.R.ByteReader.remaining l.initial.reader) (g.R.ByteReader.remaining l.reader) l.bytes.items;
  short : length l.bytes.items ≤ 16777217;
  room : 0 < vec_len l.piece;
  may_fail : g.R.ByteReader.may_fail l.reader ≡ g.R.ByteReader.may_fail l.initial.reader;
}

abbrev pub decreases-fill : goal.decreases-fill
decreases-fill g l = 16777217 - length l.bytes.items
