-- What `list` prints, and how it ends: Go Modules Reference, "go list -m".
use Rattle.std.specs.Prelude.{◌≡◌, ℕ, List, [], Option, Some, None, ◌++◌, codes, take}
use Rattle.gm_file.specs.Main.{Main}
use Rattle.gm_graph_select.specs.declared.step.Step.{Step}
use Rattle.gm_graph_select.specs.BuildList.{IsRestAfter}
use Rattle.gm_graph.specs.Entries.{Entry}
use Rattle.gm_graph.specs.Run.{AreRows}
use Rattle.gomod_texts.specs.Outcome.{Outcome, text_outcome}
use Rattle.std.specs.List.{flat_map}
use Rattle.gm_file.specs.Directives.{Right, Folder, Module}
use Rattle.gm_graph_select.specs.declared.step.Step.TheVariants.{Main as FromMain, Of}
use Rattle.gomod_texts.specs.LineParts.{line}
use Rattle.gomod_texts.specs.Queries.{Given, IsUnlisted, Prints, QueryEnds}

-- the main module's path alone, or `PATH VERSION`
abbrev pub module_text : List ℕ → Step → List ℕ
module_text main FromMain = main
module_text main (Of x) = x.0 ++ codes " " ++ x.1

-- `FOLDER`, or `PATH VERSION`
abbrev pub replacement_text : Right → List ℕ
replacement_text (Folder text) = text
replacement_text (Module path version) = path ++ codes " " ++ version

-- nothing, or an arrow and the replacement
abbrev pub replacement_suffix : Option Right → List ℕ
replacement_suffix None = []
replacement_suffix (Some right) = codes " => " ++ replacement_text right

-- a module and its replacement, if any
abbrev pub row_text : List ℕ → Entry → List ℕ
row_text main row = module_text main row.0 ++ replacement_suffix row.1

-- an entry as a line
abbrev pub entry_line : List ℕ → Entry → List ℕ
entry_line main entry = line (row_text main entry)

-- each entry as a line, in order
abbrev pub list_text : List ℕ → List Entry → List ℕ
list_text main entries = flat_map (entry_line main) entries

-- the first `n` elements, or all if there is no limit
abbrev pub up_to : {X : Type 0} → Option ℕ → List X → List X
up_to None xs = xs
up_to (Some n) xs = take n xs

-- What `list` prints of these rows: those that a rule names, and of them the first `limit`, if there is a limit.
pub data PrintsRows (main : Main) (rows : List Entry) (after : Option (List ℕ)) (limit : Option ℕ) (outcome : Outcome)
    : Type 0 where
  -- no path is given: all rows
  no_path : after ≡ None → outcome ≡ text_outcome (list_text main.path (up_to limit rows))
      → PrintsRows main rows after limit outcome
  -- the path has a row: the rows after it
  path_listed : (path : List ℕ) (others : List Entry) → after ≡ Some path → IsRestAfter main.path rows path others
      → outcome ≡ text_outcome (list_text main.path (up_to limit others)) → PrintsRows main rows after limit outcome
  -- the path has no row, which is reported
  path_unlisted : (path : List ℕ) → after ≡ Some path → IsUnlisted main rows path outcome
      → PrintsRows main rows after limit outcome

-- what `list` prints of the build list
abbrev pub PrintsList : Option (List ℕ) → Option ℕ → Prints
PrintsList after limit run outcome =
    (rows : List Entry) × AreRows run rows × PrintsRows run.main rows after limit outcome

-- how `list` ends
abbrev pub ListEnds : Option (List ℕ) → Option ℕ → Given → Outcome → Type 0
ListEnds after limit = QueryEnds (PrintsList after limit)
