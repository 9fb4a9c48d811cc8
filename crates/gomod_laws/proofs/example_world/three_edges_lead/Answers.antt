use Rattle.gomod_laws.proofs.ExampleEdges.{three_edges_lead}
use Rattle.gomod_laws.proofs.example_world.three_edges_lead.Goals as goal

pub returns : goal.returns
returns c = three_edges_lead
