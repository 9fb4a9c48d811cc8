-- What a run finds: edges and rows that are written out stand in for docs/proof/HEADLINE.md, which says how files have
-- them.
use Rattle.std.specs.Prelude.{◌≡◌, List, Contains}
use Rattle.page_commands.specs.Entries.{Entry}
use Rattle.page_commands.specs.Graph.{Edges}
use Rattle.page_commands.specs.Main.{Main}
use Rattle.page_commands.specs.ModuleVersion.{ModuleVersion}
use Rattle.page_commands.specs.Types.Step.{Step}

-- what the main file says, the edges of the module graph, in any order, and the build list
pub record Run : Type 0 where
  pub main : Main
  pub edges : List (Step × ModuleVersion)
  pub rows : List Entry

abbrev pub IsEdge : Run → Edges
IsEdge run s y = Contains run.edges (s, y)

abbrev pub AreRows : Run → List Entry → Type 0
AreRows run rows = run.rows ≡ rows
