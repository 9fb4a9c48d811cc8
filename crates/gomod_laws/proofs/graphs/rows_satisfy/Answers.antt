use Rattle.gomod_laws.proofs.GraphLawProofs.{rows_satisfy}
use Rattle.gomod_laws.proofs.graphs.rows_satisfy.Goals as goal

pub returns : goal.returns
returns c = rows_satisfy
