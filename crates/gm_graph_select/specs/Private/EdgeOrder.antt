-- Edges in their order: only equal ones tie.
use Rattle.std.specs.Cmp.{IsTotalOrder, on_total, then_total}
use Rattle.gm_name.specs.ModuleVersion.{pair_total}
use Rattle.gm_graph_select.specs.declared.step.Edge.{Edge}
use Rattle.gm_graph_select.specs.Graph.{edge_cmp}
use Rattle.gm_graph_select.specs.StepOrder.{step_total}

pub edge_total : IsTotalOrder edge_cmp
edge_total = then_total (on_total (λ (a : Edge). a.from) step_total) (on_total (λ (a : Edge). a.to) pair_total)
