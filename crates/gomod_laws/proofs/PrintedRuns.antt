-- Runs of queries that print.
use Rattle.std.proofs.Common.{◌≡◌, ℕ, List, [], Option, subst, true}
use Rattle.gm_store_parts.specs.Asked.{Name, Reply}
use Rattle.gm_store_sums.specs.Sums.{Sums}
use Rattle.gm_file.specs.Main.{Main, IsMainFile}
use Rattle.gm_graph_cache.specs.Sayings.{run_of}
use Rattle.gomod_texts.specs.Queries.{AreFound, Given, Prints, QueryEnds}
use Rattle.gomod_texts.specs.Outcome.{Outcome}
use Rattle.gomod_texts.proofs.OneRead.{one_main}
use Rattle.gomod_texts.proofs.PrintedList.{printed_run}
use Rattle.gomod_outcomes.proofs.QueryParts.{query_ends}
use Rattle.gomod_words.specs.declared.usage.Command.{Command}
use Rattle.gomod_outcomes.specs.Runs.{is_query}
use Rattle.gomod_laws.specs.Runs.{HasPrinted}
use Rattle.gomod_laws.specs.Shown.{run_over}
use Rattle.gomod_laws.proofs.Ended.{Ends}

abbrev pub Pairs : Type 0
Pairs = List (Name × Reply)

-- The run finds no fault, and this is printed.
abbrev pub PrintsOver : Prints → Given → Main → Outcome → Type 0
PrintsOver prints run main outcome = (table : Option Sums) × AreFound run main table [] × prints (run_of main table run.answers.asked) outcome

-- A run that prints, by what its main file is known to say.
pub printed_by : {prints : Prints} {run : Given} {main : Main} {outcome : Outcome} → IsMainFile run.file main
    → QueryEnds prints run outcome → HasPrinted outcome → PrintsOver prints run main outcome
printed_by {prints} {run} {outcome} says is ends =
    let (other, table, found, shows) = printed_run _ _ outcome is ends in
    subst (λ (m : Main). PrintsOver prints run m outcome) (one_main run.file _ _ found.read.main_file says) (table, found, shows)

-- what a query that prints is based on
pub valid_files : (command : Command) (file : List ℕ) (sums : Option (List ℕ)) {asked : Pairs} (outcome : Outcome)
    → is_query command ≡ true → Ends command file sums asked outcome → HasPrinted outcome
    → (main : Main) × (table : Option Sums) × AreFound (run_over file sums asked) main table []
valid_files command file sums outcome query run done =
    let (main, table, found, says) = printed_run _ _ _ (query_ends _ _ _ query run) done in
    (main, table, found)
