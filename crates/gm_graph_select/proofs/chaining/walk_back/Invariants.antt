use Rattle.std.proofs.Common.{◌++◌, ◌<◌, List, length, reverse}
use Rattle.gm_name.specs.ModuleVersion.{module_at}
use Rattle.gm_graph_select.specs.Graph.{among}
use Rattle.gm_graph_select.specs.declared.step.Step.{Step}
use Rattle.gm_graph_select.specs.declared.step.Step.TheVariants.{Of}
use Rattle.gm_graph_select.specs.Chains.{IsChain}
use Rattle.gm_graph_select.specs.Private.Numbering.{steps_of}
use Rattle.gm_graph_select.specs.Private.Searching.{visited_step}
use Rattle.gm_graph_select.proofs.chaining.walk_back.Given as goal

-- A chain to the visited step, followed by the steps on the way back, is a chain to the goal.
abbrev pub invariant-back : goal.invariant-back
invariant-back l = record {
  inside : l.place < length l.visits;
  chain : (c : List Step) → IsChain (among l.graph.edges) (visited_step (steps_of l.graph) l.visits l.place) c
      → IsChain (among l.graph.edges) (Of (module_at l.graph.vertices l.goal)) (c ++ reverse l.steps.items);
}

abbrev pub decreases-back : goal.decreases-back
decreases-back l = l.place
