use Rattle.std.proofs.Common.{◌≡◌, ◌≤◌, ◌++◌, length, take}
use Rattle.std.specs.Vec.Iter.{into_iter_items}
use Rattle.gm_graph_select.specs.Private.Ranking.{AreMarkedModules}
use Rattle.gm_graph_select.proofs.ranking.with_numbers.Given as goal

abbrev pub invariant-loop-vertex : goal.invariant-loop-vertex
invariant-loop-vertex l = record {
  within : l.number ≤ length l.fn.modules.items;
  rest : take l.number l.fn.modules.items ++ into_iter_items l.vertex-iterator ≡ l.fn.modules.items;
  numbered : AreMarkedModules (take l.number l.fn.modules.items) l.is_vertex l.all.items;
}
