-- Laws that a run is determined: a command has one outcome, and `graph`, `list` and `chain` show one graph. They follow
-- from the definitions alone.
use Rattle.std.specs.Prelude.{◌≡◌, ◌≢◌, ℕ, List, [], Option, None}
use Rattle.gm_store_sums.specs.Sums.{Sums}
use Rattle.gm_file.specs.Main.{Main, replacement_in}
use Rattle.gm_graph_select.specs.declared.step.Edge.{Edge}
use Rattle.gm_graph_select.specs.BuildList.{IsBuildList}
use Rattle.gm_graph.specs.Entries.{Entry}
use Rattle.gm_graph_select.specs.Graph.{among}
use Rattle.gm_graph.specs.Run.{AreEdges, AreRows}
use Rattle.gm_graph_cache.specs.Sayings.{run_of}
use Rattle.gomod_words.specs.declared.usage.Command.{Command}
use Rattle.gomod_texts.specs.declared.reports.status.Status.TheVariants.{Done}
use Rattle.gomod_texts.specs.ChainQuery.{ChainEnds, ShowsChain}
use Rattle.gomod_texts.specs.GraphQuery.{GraphEnds, graph_text}
use Rattle.gomod_texts.specs.ListQuery.{ListEnds, PrintsRows, list_text}
use Rattle.gomod_texts.specs.Outcome.{Outcome, code_of, text_outcome}
use Rattle.gomod_texts.specs.Queries.{AreFound, Given}
use Rattle.gomod_texts.specs.QueryLaws.{AreAlike}
use Rattle.gomod_outcomes.specs.Runs.{RunEnds}

-- ---- any command

-- Each command: the outcome is a function of what is read, of what a store was asked and answered in the run, and of
-- where its device failed.
abbrev pub OneOutcome : Type 0
OneOutcome = (command : Command) (run : Given) (one other : Outcome)
    → RunEnds command run one → RunEnds command run other → one ≡ other

-- Two runs over the same main file and go.sum have one outcome, if their stores answered no file differently and their
-- devices failed at the same files, or at none. It doesn't matter what else was asked, nor in which order.
abbrev pub OneForStores : Type 0
OneForStores = (command : Command) (run next : Given) (one other : Outcome)
    → AreAlike run next → RunEnds command run one → RunEnds command next other → one ≡ other

-- ---- the three commands show one graph

-- The rows of `list` are the build list of the edges of `graph`, and the steps of `chain` are the chain over
-- these edges to the build list's entry for the path.
pub record AreOfOneGraph (main : Main) (edges : List Edge) (rows : List Entry)
    (after : Option (List ℕ)) (limit : Option ℕ) (path : List ℕ) (graph list chain : Outcome) : Type 0 where
  pub build_list : IsBuildList main.path (replacement_in main) (among edges) rows
  pub graph_is : graph ≡ text_outcome (graph_text main.path edges)
  pub list_is : PrintsRows main rows after limit list
  pub chain_is : ShowsChain path main (among edges) rows chain

-- the same with the edges of the run
abbrev pub ShowOneGraph : Option (List ℕ) → Option ℕ → List ℕ → Given → Outcome → Outcome → Outcome → Type 0
ShowOneGraph after limit path run graph list chain =
    (main : Main) × (table : Option Sums) × (edges : List Edge) × (rows : List Entry) × AreFound run main table []
    × AreEdges (run_of main table run.answers.asked) edges
    × AreOfOneGraph main edges rows after limit path graph list chain

-- this holds when `graph` prints
abbrev pub OneGraph : Type 0
OneGraph = (after : Option (List ℕ)) (limit : Option ℕ) (path : List ℕ) (run : Given) (graph list chain : Outcome)
    → GraphEnds run graph → ListEnds after limit run list → ChainEnds path run chain
    → graph.status ≡ code_of Done → ShowOneGraph after limit path run graph list chain

-- when `graph` does not print, the others print nothing either and report the same
abbrev pub OneRefusal : Type 0
OneRefusal = (after : Option (List ℕ)) (limit : Option ℕ) (path : List ℕ) (run : Given)
    (graph list chain : Outcome)
    → GraphEnds run graph → ListEnds after limit run list → ChainEnds path run chain
    → graph.status ≢ code_of Done
    → (list ≡ graph) × (chain ≡ graph)

-- ---- parts of the list

-- The one outcome is the build list, and the other its rows: all, or those after the row of the path, cut off at the
-- limit; or it reports a path that has no row.
abbrev pub ShowsPart : Option (List ℕ) → Option ℕ → Given → Outcome → Outcome → Type 0
ShowsPart after limit run whole part =
    (main : Main) × (table : Option Sums) × (rows : List Entry) × AreFound run main table []
    × AreRows (run_of main table run.answers.asked) rows
    × (whole ≡ text_outcome (list_text main.path rows)) × PrintsRows main rows after limit part

-- this holds for any path and limit when `list` prints
abbrev pub PartsOfOneList : Type 0
PartsOfOneList = (after : Option (List ℕ)) (limit : Option ℕ) (run : Given) (whole part : Outcome)
    → ListEnds None None run whole → ListEnds after limit run part → whole.status ≡ code_of Done
    → ShowsPart after limit run whole part
