use Rattle.std.proofs.Common.{take}
use Rattle.gm_name_table.specs.Listed.{Appends}
use Rattle.gm_graph_files.proofs.summary.append.Given as goal

abbrev pub invariant-loop-x : goal.invariant-loop-x
invariant-loop-x l = Appends l.fn.modules l.modules (take l.x-index l.more)
