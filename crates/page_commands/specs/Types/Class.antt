-- what is wrong with a module's file
use Rattle.std.specs.Prelude.{ℕ}
use Rattle.page_commands.specs.Types.Misreading.{Misreading}

pub data Class : Type 0 where
  NotFetchable : Class
  Missing : Class
  TooLong : Class
  NoSum : Class
  SumDiffers : Class
  Malformed : ℕ → Misreading → Class
  WrongPath : Class
