use Rattle.std.proofs.Common.{◌≡◌, Some, take}
use Rattle.std.specs.Prelude.{IsSome}
use Rattle.std.specs.BTreeMap as tree
use Rattle.std.specs.List.{All}
use Rattle.gm_name.specs.ModuleVersion.{ModuleVersion, module_at, pair_cmp}
use Rattle.gm_graph_files.specs.declared.class.Class.{Class}
use Rattle.gm_graph.specs.Private.Gathering.{HasFaultOf}
use Rattle.gm_graph.proofs.gathering.faults_by_vertex.Given as goal

abbrev pub invariant-loop-one : goal.invariant-loop-one
invariant-loop-one l = record {
  only : (x : ModuleVersion) (class : Class) → tree.get pair_cmp l.map x ≡ Some class
      → HasFaultOf l.modules (take l.one-index l.faults) x class;
  each : All (λ one. IsSome (tree.get pair_cmp l.map (module_at l.modules one.number))) (take l.one-index l.faults);
}
