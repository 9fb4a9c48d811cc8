use Rattle.std.proofs.Common.{◌≡◌, ◌≢◌, ◌+◌, ◌++◌, ◌∷◌, [], length, take}
use Rattle.std.specs.Prelude.{All}
use Rattle.gm_graph_select.specs.Private.Marking.{HasMark}
use Rattle.gm_graph_select.specs.Private.Searching.{AreNewVisits, IsEdgeTo}
use Rattle.gm_graph_select.proofs.searching.Search.visit.Given as goal

abbrev pub invariant-loop-rank : goal.invariant-loop-rank
invariant-loop-rank l = record {
  visits : l.self.visits.items ≡ l.fn.self.visits.items ++ l.fn.visit ∷ [];
  passed : l.self.is_passed ≡ l.fn.self.is_passed;
  new : AreNewVisits (length l.fn.self.visits.items) (IsEdgeTo l.graph l.fn.visit.number) l.fn.self l.self;
  each : All (λ rank. (rank ≢ l.goal) × HasMark l.self.is_found.items (rank + 1)) (take l.rank-index l.ranks);
}
