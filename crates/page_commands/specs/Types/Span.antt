-- the place of a word in its source
use Rattle.std.specs.Prelude.{ℕ}

pub record Span : Type 0 where
  pub first : ℕ
  pub after : ℕ
