use Rattle.std.proofs.Common.{◌+◌, ℕ, length}
use Rattle.gm_name.specs.ModuleVersion.{module_at}
use Rattle.gm_graph_select.specs.Private.Searching.{IsSearchedTo, count_left}
use Rattle.gm_graph_select.proofs.searching.visits_to.Given as goal

abbrev pub invariant-levels : goal.invariant-levels
invariant-levels l = (level : ℕ) × IsSearchedTo l.graph (module_at l.graph.vertices l.goal) level l.search l.due.items

abbrev pub decreases-levels : goal.decreases-levels
decreases-levels l = count_left l.search.is_found.items + length l.due.items
