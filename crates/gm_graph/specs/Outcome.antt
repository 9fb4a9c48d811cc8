-- The result of loading, as lists.
use Rattle.std.specs.Prelude.{◌≡◌, ℕ, List, Contains}
use Rattle.gm_store_parts.specs.Asked.{Name}
use Rattle.gm_graph_files.specs.declared.depth.Turn.{Turn}
use Rattle.gm_graph_select.specs.declared.step.Edge.{Edge}
use Rattle.gm_graph.specs.Entries.{Entry}
use Rattle.gm_graph_select.specs.Chains.{IsReached}
use Rattle.gm_graph_select.specs.Graph.{among, edge_cmp}
use Rattle.gm_graph_select.specs.Order.{IsAscending}
use Rattle.gm_graph.specs.declared.fault.Fault.{Fault}
use Rattle.gm_graph.specs.Run.{AreEdges, AreFaults, AreRows, AreTurns, IsSettled}
use Rattle.gm_graph_cache.specs.Sayings.{Run}

-- the main module's path, the faults, the edges, the build list and the turns
pub record LoadedGraph : Type 0 where
  pub main : List ℕ
  pub faults : List Fault
  pub edges : List Edge
  pub rows : List Entry
  pub turns : List Turn

-- The result of loading: the faults, the edges, the build list and the turns of a run. Exactly the needed files were
-- asked for.
pub record IsLoaded (run : Run) (asked : List Name) (loaded : LoadedGraph) : Type 0 where
  pub main_is : loaded.main ≡ run.main.path
  pub faults : AreFaults run loaded.faults
  pub edges : AreEdges run loaded.edges
  pub rows : AreRows run loaded.rows
  pub turns : AreTurns run loaded.turns
  pub settled : IsSettled run asked

-- The edges are in strictly ascending order, and edges lead from the main module to each entry.
pub record AreReached (edges : List Edge) (rows : List Entry) : Type 0 where
  pub ascending : IsAscending edge_cmp edges
  pub reached : (entry : Entry) → Contains rows entry → ¬ (¬ (IsReached (among edges) entry.0))
