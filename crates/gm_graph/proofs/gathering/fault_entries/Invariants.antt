use Rattle.std.proofs.Common.{◌≡◌, ◌++◌, map}
use Rattle.gm_graph.specs.Private.Gathering.{fault}
use Rattle.gm_graph.proofs.gathering.fault_entries.Given as goal

abbrev pub invariant-loop-vertex : goal.invariant-loop-vertex
invariant-loop-vertex l = l.list.items ++ map (λ entry. fault entry.0 entry.1) l.vertex-iterator ≡ map
    (λ entry. fault entry.0 entry.1) l.fn.faults.entries
