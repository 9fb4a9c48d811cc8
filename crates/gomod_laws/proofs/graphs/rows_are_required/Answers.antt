use Rattle.gomod_laws.proofs.GraphLawProofs.{rows_are_required}
use Rattle.gomod_laws.proofs.graphs.rows_are_required.Goals as goal

pub returns : goal.returns
returns c = rows_are_required
