-- A copy from crates/gm_graph/specs/Entries.antt, which tools/check/headline.py writes.
use Rattle.std.specs.Prelude.{Option}
use Rattle.page_commands.specs.Directives.{Right}
use Rattle.page_commands.specs.Types.Step.{Step}

-- a module of the build list, and its replacement
abbrev pub Entry : Type 0
Entry = Step × Option Right
