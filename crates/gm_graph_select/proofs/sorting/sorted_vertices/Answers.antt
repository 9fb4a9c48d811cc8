use Rattle.gm_name.specs.Private.ModuleVersion.{pair-anti}
use Rattle.gm_graph_select.proofs.sorting.sorted_vertices.Goals as goal

pub sorted-requires : goal.sorted-requires
sorted-requires c = λ a b x y e. pair-anti a b e
