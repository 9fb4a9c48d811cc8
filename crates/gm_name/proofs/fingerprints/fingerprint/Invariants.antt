use Rattle.std.proofs.Common.{◌≡◌, length}
use Rattle.gm_name.specs.Fingerprint.{fingerprint}
use Rattle.gm_name.proofs.fingerprints.fingerprint.Given as goal

abbrev pub invariant-words : goal.invariant-words
invariant-words l = fingerprint l.number l.rest ≡ fingerprint l.fn.start l.fn.text

abbrev pub decreases-words : goal.decreases-words
decreases-words l = length l.rest
