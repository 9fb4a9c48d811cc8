use Rattle.std.proofs.Common.{◌≡◌, ◌+◌, drop}
use Rattle.semver.specs.Order.{part_length}
use Rattle.gm_version.proofs.pre_release.identifier_len.Given as goal

abbrev pub invariant-bytes : goal.invariant-bytes
invariant-bytes l = part_length l.text ≡ l.place + part_length (drop l.place l.text)
