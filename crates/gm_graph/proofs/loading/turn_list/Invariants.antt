use Rattle.std.proofs.Common.{◌≡◌, map, take}
use Rattle.gm_graph.specs.Private.Worklists.{turn_of}
use Rattle.gm_graph.proofs.loading.turn_list.Given as goal

abbrev pub invariant-loop-one : goal.invariant-loop-one
invariant-loop-one l = l.list.items ≡ map (turn_of l.modules) (take l.one-index l.one-items)
