-- the main module, or a module at a version
use Rattle.std.specs.Prelude.{ℕ, List}

pub data Step : Type 0 where
  Main : Step
  Of : List ℕ × List ℕ → Step
