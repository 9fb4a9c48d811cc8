-- Places in a list.
use Rattle.std.specs.Prelude.{ℕ}

-- A place is a number of 32 bits below the greatest one, which stands for no place.
abbrev pub place_limit : ℕ
place_limit = 4294967295
