-- The build list's rows as contracts see them.
use Rattle.std.specs.Prelude.{List, map, Option}
use Rattle.std.specs.Option.{option_map}
use Rattle.gm_file.specs.declared.replace.Right as declared
use Rattle.gm_file.specs.Directives.{Right}
use Rattle.gm_file.specs.Views.{right_view}
use Rattle.gm_graph_select.specs.declared.row.Row.{Row}
use Rattle.gm_graph_select.specs.declared.step.Step.{Step}

-- a module of the build list, and its replacement
abbrev pub Entry : Type 0
Entry = Step × Option Right

-- a row, as contracts state it
abbrev pub entry_of_row : Row declared.Right → Entry
entry_of_row row = (row.step, option_map right_view row.right)

-- rows, as contracts state them
abbrev pub entries_of_rows : List (Row declared.Right) → List Entry
entries_of_rows rows = map entry_of_row rows
