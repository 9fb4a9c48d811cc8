use Rattle.std.proofs.Common.{◌≡◌, ◌⊎◌, ◌++◌, Contains, length, map}
use Rattle.std.specs.Vec.Iter.{into_iter_items}
use Rattle.gm_graph_select.specs.declared.ranking.Numbered.{Numbered}
use Rattle.gm_graph_select.specs.Private.Ranking.{IsRanked}
use Rattle.gm_graph_select.proofs.ranking.ranking_of.Given as goal

abbrev pub invariant-loop-next : goal.invariant-loop-next
invariant-loop-next l = record {
  vertices : l.vertices.items ++ map (λ (one : Numbered). one.vertex) (into_iter_items l.next-iterator) ≡ map (λ (one : Numbered). one.vertex) l.fn.all.items;
  count : length l.ranks.items ≡ l.modules;
  rest : (x : Numbered) → Contains (into_iter_items l.next-iterator) x → Contains l.fn.all.items x;
  each : (x : Numbered) → Contains l.fn.all.items x → IsRanked l.vertices.items l.ranks.items x ⊎ Contains (into_iter_items l.next-iterator) x;
}
