use Rattle.gomod_run.proofs.ShortestChain.{chain_is_shortest}
use Rattle.gomod_run.proofs.queries.laws.chain_is_shortest.Goals as goal

pub returns : goal.returns
returns c = chain_is_shortest
