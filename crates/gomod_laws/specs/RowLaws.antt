-- Laws of the rows of `list`: what `graph` and `chain` say of them.
use Rattle.std.specs.Prelude.{◌≡◌, ◌++◌, ℕ, List, [], ◌∷◌, map, Option, Contains, codes}
use Rattle.std.specs.List.{flat_map}
use Rattle.gm_store_parts.specs.Asked.{Name, Reply}
use Rattle.gm_file.specs.Main.{Main}
use Rattle.gm_graph_select.specs.declared.step.Edge.{Edge}
use Rattle.gm_graph_select.specs.BuildList.{HasEntryFor, path_of}
use Rattle.gm_graph.specs.Entries.{Entry}
use Rattle.gomod_texts.specs.QueryLaws.{AnswerAlike}
use Rattle.gomod_texts.specs.Outcome.{Outcome, text_outcome, refusal_outcome}
use Rattle.gomod_texts.specs.Reports.{not_listed_line}
use Rattle.gomod_texts.specs.GraphQuery.{edge_text}
use Rattle.gomod_texts.specs.LineParts.{step_text, line}
use Rattle.gomod_words.specs.declared.usage.Command.TheVariants.{Graph, List as Rows, Chain}
use Rattle.gomod_laws.specs.Runs.{HasOutcome, HasPrinted}
use Rattle.gomod_laws.specs.Shown.{ShowsEdges, ShowsRows, run_over}

-- these lines, each with the line feed that ends it
abbrev pub text_of : List (List ℕ) → List ℕ
text_of lines = flat_map line lines

-- Lines from the first to the last, of which each two in turn, joined by a space, are among these edges.
pub data AreChained (edges : List (List ℕ)) (first : List ℕ) : List ℕ → List (List ℕ) → Type 0 where
  here : AreChained edges first first (first ∷ [])
  further : {last : List ℕ} {lines : List (List ℕ)} (next : List ℕ) → AreChained edges first last lines
      → Contains edges (last ++ codes " " ++ next) → AreChained edges first next (lines ++ next ∷ [])

-- What `chain` prints for a path, by the rows of `list` and the lines of `graph`.
pub record IsExplained (main : List ℕ) (rows : List Entry) (edges : List (List ℕ)) (path : List ℕ)
    (chain : Outcome) : Type 0 where
  -- for the path of a row: lines that lead from the main module to that row's module at its version
  pub row : (entry : Entry) → Contains rows entry → path_of main entry.0 ≡ path
      → (lines : List (List ℕ)) × AreChained edges main (step_text main entry.0) lines
      × (chain ≡ text_outcome (text_of lines))
  -- for another path: nothing, and it is reported
  pub unlisted : ¬ (HasEntryFor main rows path) → chain ≡ refusal_outcome (not_listed_line path)

-- `list` shows these rows of its run, all or a part of them, `graph` shows these edges of its run, and `chain` over a
-- store that answers no file differently explains each row by them.
pub record ExplainsEachRow (file : List ℕ) (sums : Option (List ℕ)) (asked others : List (Name × Reply)) (main : Main)
    (after : Option (List ℕ)) (limit : Option ℕ) (list graph : Outcome) : Type 0 where
  pub rows : List Entry
  pub edges : List Edge
  pub shows_rows : ShowsRows (run_over file sums asked) main after limit rows list
  pub shows_edges : ShowsEdges (run_over file sums others) main edges graph
  pub explains : (path : List ℕ) (third : List (Name × Reply)) (chain : Outcome) → AnswerAlike asked third
      → HasOutcome (Chain path) file sums third chain
      → IsExplained main.path rows (map (edge_text main.path) edges) path chain

-- If `list` prints, all rows or a part of them, `graph` prints too, and by its lines `chain` explains each row.
abbrev pub EachRowIsExplained : Type 0
EachRowIsExplained = (after : Option (List ℕ)) (limit : Option ℕ) (file : List ℕ) (sums : Option (List ℕ))
    (asked others : List (Name × Reply)) (list graph : Outcome) → AnswerAlike asked others
    → HasOutcome (Rows after limit) file sums asked list → HasOutcome Graph file sums others graph → HasPrinted list
    → (main : Main) × ExplainsEachRow file sums asked others main after limit list graph
