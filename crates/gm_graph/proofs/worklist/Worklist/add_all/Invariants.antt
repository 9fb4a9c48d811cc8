use Rattle.std.proofs.Common.{take}
use Rattle.gm_name_table.specs.Listed.{modules_at}
use Rattle.gm_graph_cache.specs.Lent.{lent_table}
use Rattle.gm_graph.specs.Private.Worklists.{IsWorklist, turns_of}
use Rattle.gm_graph.specs.Private.Turns.{AddsAll}
use Rattle.gm_graph.proofs.worklist.Worklist.add_all.Given as goal

abbrev pub invariant-loop-number : goal.invariant-loop-number
invariant-loop-number l = record {
  worklist : IsWorklist (lent_table l.fn.list) l.self;
  adds : AddsAll (turns_of (lent_table l.fn.list) l.fn.self) (turns_of (lent_table l.fn.list) l.self)
      (modules_at (lent_table l.fn.list) (take l.number-index l.number-items)) l.depth;
}
