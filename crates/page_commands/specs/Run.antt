-- A copy from crates/gm_graph/specs/Run.antt, which tools/check/headline.py writes.
use Rattle.std.specs.Prelude.{◌↔◌, List, Contains}
use Rattle.page_commands.specs.Types.Edge.{Edge}
use Rattle.page_commands.specs.Graph.{edge_cmp}
use Rattle.page_commands.specs.Order.{IsAscending}
use Rattle.page_commands.specs.Runs.{Run, IsEdge}

-- Each edge, in strictly ascending order.
pub record AreEdges (run : Run) (edges : List Edge) : Type 0 where
  pub ascending : IsAscending edge_cmp edges
  pub each : (one : Edge) → Contains edges one ↔ IsEdge run one.from one.to
