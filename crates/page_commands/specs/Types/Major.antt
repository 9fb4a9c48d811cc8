-- the major version that a path names
use Rattle.std.specs.Prelude.{ℕ}

pub data Major : Type 0 where
  NoSuffix : Major
  Slash : ℕ → Major
  Dot : ℕ → Major
