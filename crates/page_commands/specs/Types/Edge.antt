-- an edge of the module graph
use Rattle.std.specs.Prelude.{ℕ, List}
use Rattle.page_commands.specs.Types.Step.{Step}

pub record Edge : Type 0 where
  pub from : Step
  pub to : List ℕ × List ℕ
