use Rattle.std.proofs.Common.{ℕ, Contains, length, take}
use Rattle.gm_name.specs.ModuleVersion.{module_at}
use Rattle.gm_graph_select.specs.Graph.{among}
use Rattle.gm_graph_select.specs.declared.searching.Visit.{Visit}
use Rattle.gm_graph_select.specs.Private.Numbering.{steps_of}
use Rattle.gm_graph_select.specs.Private.Searching.{IsFollowed, IsSearchedTo, IsTraced}
use Rattle.gm_graph_select.proofs.searching.Search.visit_level.Given as goal

abbrev pub invariant-loop-visit : goal.invariant-loop-visit
invariant-loop-visit l = record {
  traced : (v : Visit) → Contains l.due v → IsTraced (among l.graph.edges) (steps_of l.graph) l.self.visits.items (length l.self.visits.items) v;
  followed : (level : ℕ) → IsSearchedTo l.graph (module_at l.graph.vertices l.goal) level l.fn.self l.due
      → IsFollowed l.graph (module_at l.graph.vertices l.goal) level l.fn.self.is_found.items (take l.visit-index l.due) l.self;
}
