use Rattle.gomod_laws.proofs.GraphLawProofs.{one_answer}
use Rattle.gomod_laws.proofs.graphs.one_answer.Goals as goal

pub returns : goal.returns
returns c = one_answer
