use Rattle.std.proofs.Common.{refl}
use Rattle.gomod_hints.specs.Hints.{other_hints}
use Rattle.gomod_hints.proofs.hints.other_rows.Goals as goal

pub returns : goal.returns
unfolding other_hints
returns c = refl
