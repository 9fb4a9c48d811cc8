use Rattle.std.proofs.Common.{◌≡◌, ◌∙◌, ◌++◌, ◌∷◌, [], List, append-nil, append_assoc, map, refl, sym}
use Rattle.std.proofs.lemmas.List.{map-append}
use Rattle.gm_name.specs.ModuleVersion.{ModuleVersion}
use Rattle.gm_file.specs.Main.{replacement_in}
use Rattle.gm_graph_select.specs.BuildList.{entry_of}
use Rattle.gm_file.specs.declared.replace.Right.{Right}
use Rattle.gm_graph.specs.Entries.{Entry, entries_of_rows, entry_of_row}
use Rattle.gm_graph_select.specs.declared.row.Row.{Row}
use Rattle.gm_graph.proofs.rows.rows_of.Goals as goal

-- The entry of one more row is the first of those that remained.
more_rows : (entry : ModuleVersion → Entry) (old new : List (Row Right)) (row : Row Right) (x : ModuleVersion) (rest : List ModuleVersion)
    → entry_of_row row ≡ entry x → new ≡ old ++ row ∷ []
    → entries_of_rows new ++ map entry rest ≡ entries_of_rows old ++ map entry (x ∷ rest)
more_rows entry old new row x rest is more =
    rw (more, map-append) (rw is (append_assoc (entries_of_rows old) (entry x ∷ []) (map entry rest)))

pub loop-vertex-init : goal.loop-vertex-init
loop-vertex-init c = rw (c.in_ok-rows.ensures, c.into_iter-vertex-iterator.ensures.into_iter_gives) refl

pub loop-vertex-preserved : goal.loop-vertex-preserved
loop-vertex-preserved c =
    more_rows (entry_of (replacement_in c.args.main.now)) c.loop-vertex.rows.items c.push.new.self.items c.in_ok-row_of.field-0
    c.in-Some.vertex.now c.next.new.self c.in_ok-row_of.ensures c.in_ok-push.ensures.items
    ∙ (rw c.in-Some.ensures.steps at c.loop-vertex.invariant)

pub returns : goal.returns
returns c = sym (append-nil (entries_of_rows c.loop-vertex.rows.items)) ∙ (rw c.in-None.ensures.steps.0 at c.loop-vertex.invariant)
