-- A part of the rows of a build list.
use Rattle.std.proofs.Common.{◌≡◌, ◌∙◌, ◌+◌, ◌-◌, ◌<◌, ◌++◌, ◌∷◌, suc, ℕ, List, [], Option, Some, None, ap, arith, drop, length, length-append, refl, sym, take, take_all}
use Rattle.std.proofs.Math.Seq.{drop-append-add, take-nil}
use Rattle.std.proofs.lemmas.List.{drop-map, drop_all, length-drop, length-map, take-map}
use Rattle.gm_file.specs.declared.replace.Right.{Right}
use Rattle.gm_graph.specs.Entries.{Entry, entries_of_rows, entry_of_row}
use Rattle.gm_file.specs.Main.{Main}
use Rattle.gm_graph_select.specs.BuildList.{IsRestAfter}
use Rattle.gm_graph_select.specs.declared.row.Row.{Row}
use Rattle.gomod_texts.specs.ListQuery.{PrintsRows, list_text, path_listed, up_to}
use Rattle.gomod_texts.specs.Outcome.{text_outcome}

-- there are no more rows than are left out
pub nothing_left : (limit : Option ℕ) (from : ℕ) (rows : List (Row Right)) → length rows < from
    → [] ≡ up_to limit (drop from (entries_of_rows rows))
nothing_left None from rows less = sym (drop-map _ _ rows ∙ ap entries_of_rows (drop_all _ rows (omega arith)))
nothing_left (Some n) from rows less =
    sym (ap (take n) (drop-map _ _ rows ∙ ap entries_of_rows (drop_all _ rows (omega arith))) ∙ take-nil n)

-- the rows that are left, up to the limit
pub part_left : (limit : Option ℕ) (from count : ℕ) (rows : List (Row Right))
    → ((entries : List Entry) → length entries ≡ length (take (length rows - from) (drop from rows)) → take count entries ≡ up_to limit entries)
    → entries_of_rows (take count (take (length rows - from) (drop from rows))) ≡ up_to limit (drop from (entries_of_rows rows))
part_left limit from count rows is =
    let size = length-drop from rows in
    let all = take_all _ _ (omega (arith, size)) in
    ap (λ left. entries_of_rows (take count left)) all
    ∙ sym (take-map _ _ _)
    ∙ is (entries_of_rows (drop from rows)) (length-map _ _ ∙ ap length (sym all))
    ∙ ap (up_to limit) (sym (drop-map _ from rows))

-- the rows after that of a path, of which the list has as many as it has more than those before them
pub after_row : (entries before : List Entry) (entry : Entry) (rest : List Entry) → entries ≡ before ++ entry ∷ rest
    → drop (length entries - length rest) entries ≡ rest
after_row entries before entry rest parts =
    let size : length entries ≡ length before + suc (length rest) = ap length parts ∙ length-append _ _ in
    let place : length entries - length rest ≡ length before + 1 = omega (arith, size) in
    ap (λ n. drop n entries) place ∙ ap (drop (length before + 1)) parts ∙ drop-append-add before _ 1

-- they are printed
pub rest_shown : (main : Main) (all rest : List (Row Right)) (rows : List Entry) (path : List ℕ) (count : ℕ) (limit : Option ℕ)
    → entries_of_rows all ≡ rows → count ≡ length rest → IsRestAfter main.path rows path (entries_of_rows rest)
    → PrintsRows main rows (Some path) limit (text_outcome (list_text main.path (up_to limit (drop (length all - count) rows))))
rest_shown main all rest rows path count limit lent counted (entry, at) =
    let place : length all - count ≡ length rows - length (entries_of_rows rest) =
    omega (arith, ap length lent, length-map all entry_of_row, counted, length-map rest entry_of_row) in
    path_listed path _ refl (entry, at)
    (ap (λ es. text_outcome (list_text main.path (up_to limit es)))
    (ap (λ n. drop n rows) place ∙ after_row rows _ entry _ at.parts))
