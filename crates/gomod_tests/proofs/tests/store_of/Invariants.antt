use Rattle.std.proofs.Common.{◌≡◌, []}
use Rattle.gm_store_parts.specs.Memory.{pairs_of}
use Rattle.gomod_tests.proofs.tests.store_of.Given as goal

abbrev pub invariant-loop-file : goal.invariant-loop-file
invariant-loop-file g l = pairs_of l.store ≡ []
