use Rattle.gomod_laws.proofs.GraphLawProofs.{unpruned_is_plain}
use Rattle.gomod_laws.proofs.graphs.unpruned_is_plain.Goals as goal

pub returns : goal.returns
returns c = unpruned_is_plain
