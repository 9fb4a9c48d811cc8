-- What `chain` prints, and how it ends.
use Rattle.std.specs.Prelude.{◌≡◌, ◌⊎◌, ℕ, List}
use Rattle.gm_file.specs.Main.{Main}
use Rattle.gm_graph_select.specs.declared.step.Step.{Step}
use Rattle.gm_graph_select.specs.BuildList.{IsEntryOf}
use Rattle.gm_graph.specs.Entries.{Entry}
use Rattle.gm_graph_select.specs.Chains.{IsChain}
use Rattle.gm_graph_select.specs.Graph.{Edges}
use Rattle.gm_graph.specs.Run.{AreRows, IsEdge}
use Rattle.gomod_texts.specs.Outcome.{Outcome, text_outcome}
use Rattle.std.specs.List.{flat_map}
use Rattle.gomod_texts.specs.LineParts.{line, step_text}
use Rattle.gomod_texts.specs.Queries.{Given, IsUnlisted, Prints, QueryEnds}

-- a step as a line
abbrev pub step_line : List ℕ → Step → List ℕ
step_line main step = line (step_text main step)

-- each step as a line, in order
abbrev pub chain_text : List ℕ → List Step → List ℕ
chain_text main steps = flat_map (step_line main) steps

-- the steps of the chain over these edges to the entry that these rows have for the path, or the report that there is
-- none
abbrev pub ShowsChain : List ℕ → Main → Edges → List Entry → Outcome → Type 0
ShowsChain path main edges rows outcome =
    ((s : Step) × (steps : List Step) × IsEntryOf main.path rows path s × IsChain edges s steps
    × (outcome ≡ text_outcome (chain_text main.path steps)))
    ⊎ IsUnlisted main rows path outcome

-- what `chain` prints over the module graph and the build list
abbrev pub PrintsChain : List ℕ → Prints
PrintsChain path run outcome = (rows : List Entry) × AreRows run rows
    × ShowsChain path run.main (IsEdge run) rows outcome

-- how `chain` ends
abbrev pub ChainEnds : List ℕ → Given → Outcome → Type 0
ChainEnds path = QueryEnds (PrintsChain path)
