use Rattle.gomod_laws.proofs.Contradicted.{field_is_excluded}
use Rattle.gomod_laws.proofs.counterexamples.queries.a_graph_can_contradict.Goals as goal

pub returns : goal.returns
returns c = field_is_excluded
