-- What a look-up has and says.
use Rattle.std.specs.Prelude.{List, map}
use Rattle.std.specs.Borrow.{Bor}
use Rattle.clap.specs.Walk.{Text}
use Rattle.gomod_hints.specs.Hints.{Rows}

-- the rows of a table, as texts
abbrev pub rows_in : List (Bor Text × Bor Text) → Rows
rows_in rows = map (λ row. (row.0.now, row.1.now)) rows
