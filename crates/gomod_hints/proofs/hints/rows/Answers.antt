use Rattle.std.proofs.Common.{refl}
use Rattle.gomod_hints.specs.Hints.{hints}
use Rattle.gomod_hints.proofs.hints.rows.Goals as goal

pub returns : goal.returns
unfolding hints
returns c = refl
