use Rattle.std.proofs.Common.{◌≡◌, ◌++◌, ◌∷◌, map}
use Rattle.gm_file.specs.Main.{replacement_in}
use Rattle.gm_graph_select.specs.BuildList.{entry_of, main_entry}
use Rattle.gm_graph.specs.Entries.{entries_of_rows}
use Rattle.gm_graph.proofs.rows.rows_of.Given as goal

-- The rows so far and those of the remaining modules are all rows.
abbrev pub invariant-loop-vertex : goal.invariant-loop-vertex
invariant-loop-vertex l = entries_of_rows l.rows.items ++ map (entry_of (replacement_in l.main)) l.vertex-iterator
    ≡ main_entry ∷ map (entry_of (replacement_in l.main)) l.fn.selected
