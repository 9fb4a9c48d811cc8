use Rattle.std.proofs.Common.{◌≡◌, drop}
use Rattle.gm_name.specs.Fingerprint.{by_bytes}
use Rattle.gm_name.proofs.fingerprints.by_bytes.Given as goal

abbrev pub invariant-loop-byte : goal.invariant-loop-byte
invariant-loop-byte l = by_bytes l.number (drop l.byte-index l.bytes) ≡ by_bytes l.fn.start l.fn.bytes
