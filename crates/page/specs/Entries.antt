-- A copy from crates/gm_graph/specs/Entries.antt, which tools/check/headline.py writes.
use Rattle.std.specs.Prelude.{Option}
use Rattle.page.specs.Directives.{Right}
use Rattle.page.specs.Types.{Step}

-- a module of the build list, and its replacement
abbrev pub Entry : Type 0
Entry = Step × Option Right
