use Rattle.std.proofs.Common.{◌≡◌, length, take}
use Rattle.gm_graph_select.specs.Adjacency.{by_step}
use Rattle.gm_graph_select.specs.Private.Marking.{AreMarked, ArePassedMarked, numbers_named}
use Rattle.gm_graph_select.proofs.marking.mark_sources.Given as goal

abbrev pub invariant-loop-one : goal.invariant-loop-one
invariant-loop-one l = record {
  marks : AreMarked l.fn.marks (numbers_named (take l.one-index (by_step l.lists l.sources))) l.marks;
  count : length l.is_passed ≡ length l.lists;
  passed : ArePassedMarked l.lists l.is_passed l.marks;
}
