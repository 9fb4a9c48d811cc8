-- What loading found, and what the commands do with its result.
use Rattle.std.specs.Prelude.{◌≡◌, List, [], ◌∷◌}
use Rattle.std.specs.Option.{option_copied}
use Rattle.gm_file.specs.Main.{Main}
use Rattle.gm_graph_select.specs.Graph.{among}
use Rattle.gm_graph.specs.declared.fault.Fault.{Fault}
use Rattle.gm_graph.specs.Outcome.{LoadedGraph as Found}
use Rattle.gomod_outcomes.specs.declared.queries.query.Query.{Query}
use Rattle.gomod_outcomes.specs.declared.queries.query.Query.TheVariants.{Graph, List as Rows, Chain}
use Rattle.gomod_texts.specs.GraphQuery.{graph_text}
use Rattle.gomod_texts.specs.Reports.{faults_text}
use Rattle.gomod_texts.specs.ListQuery.{PrintsRows}
use Rattle.gomod_texts.specs.ChainQuery.{ShowsChain}
use Rattle.gomod_texts.specs.Outcome.{Outcome, text_outcome, refusal_outcome}

-- what a command prints of what was found
abbrev pub PrintsFound : Query → Main → Found → Outcome → Type 0
PrintsFound Graph main found outcome = outcome ≡ text_outcome (graph_text main.path found.edges)
PrintsFound (Rows after limit) main found outcome = PrintsRows main found.rows (option_copied after) limit outcome
PrintsFound (Chain path) main found outcome = ShowsChain path.now main (among found.edges) found.rows outcome

-- the faults are reported if there are any; otherwise this is what the command prints
abbrev pub ReportsFaultsOr : List Fault → Type 0 → Outcome → Type 0
ReportsFaultsOr [] prints outcome = prints
ReportsFaultsOr (first ∷ others) prints outcome = outcome ≡ refusal_outcome (faults_text (first ∷ others))

-- the outcome of a command over what was found
abbrev pub IsOutcomeOfFound : Query → Main → Found → Outcome → Type 0
IsOutcomeOfFound query main found outcome = ReportsFaultsOr found.faults (PrintsFound query main found outcome) outcome
