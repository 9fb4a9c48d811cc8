use Rattle.gm_graph_select.proofs.NumberedSteps.{ranks_found}
use Rattle.gm_graph_select.proofs.graph.Graph.ranks_in.Goals as goal

pub returns : goal.returns
returns c = rw⁻¹ c.self.view_is (rw c.at.ensures (ranks_found c.self.inside.lists c.self.inside.sources.items c.self.invariant c.args.list))
