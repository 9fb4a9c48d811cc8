-- How a query ends, by whether its two files are valid.
use Rattle.std.proofs.Common.{◌≡◌, List, [], ◌∷◌, Option, true, inl, inr}
use Rattle.std.proofs.lemmas.Bool.{false≢true}
use Rattle.gm_store_parts.specs.Asked.{Name}
use Rattle.gm_store_sums.specs.Sums.{Sums}
use Rattle.gm_file.specs.Main.{Main}
use Rattle.gm_graph.specs.declared.fault.Fault.{Fault}
use Rattle.gm_graph.specs.Run.{AreTooMany, IsDue, IsRead}
use Rattle.gm_graph_cache.specs.Sayings.{run_of}
use Rattle.gomod_outcomes.specs.Private.Found.{ReportsFaultsOr}
use Rattle.gomod_texts.specs.Queries.{AreFound, FilesReadAs, Given, IsUnasked, Prints, QueryEnds, bad_main, bad_sums, device, faulty, no_fault, too_many}
use Rattle.gomod_texts.specs.Outcome.{Outcome, failure_outcome, refusal_outcome}
use Rattle.gomod_outcomes.specs.Private.Refusals.{IsRefusedRead}
use Rattle.gomod_texts.specs.Reports.{device_line, too_many_line}
use Rattle.gomod_outcomes.specs.Runs.{RunEnds, is_query}
use Rattle.gomod_outcomes.specs.Private.ByCommand.{PrintsOf}
use Rattle.gomod_words.specs.declared.usage.Command.{Command}
use Rattle.gomod_words.specs.declared.usage.Command.TheVariants.{Graph, List as Rows, Chain}

-- loading finds too many modules, or its store's device fails, or all needed files are answered
pub data LoadingEnd (prints : Prints) (run : Given) (main : Main) (table : Option Sums) (outcome : Outcome) : Type 0 where
  is_many : IsRead (run_of main table run.answers.asked) → AreTooMany (run_of main table run.answers.asked)
      → run.answers.failed ≡ [] → outcome ≡ refusal_outcome too_many_line → LoadingEnd prints run main table outcome
  is_broken : (name : Name) → IsDue (run_of main table run.answers.asked) name → run.answers.failed ≡ name ∷ []
      → outcome ≡ failure_outcome (device_line name) → LoadingEnd prints run main table outcome
  is_known : (faults : List Fault) → AreFound run main table faults
      → ReportsFaultsOr faults (prints (run_of main table run.answers.asked) outcome) outcome
      → LoadingEnd prints run main table outcome

-- one of the two files is invalid, or both are valid, and loading ends
pub data Parts (prints : Prints) (run : Given) (outcome : Outcome) : Type 0 where
  unread : IsRefusedRead run.file run.sums outcome → IsUnasked run.answers → Parts prints run outcome
  are_read : (main : Main) (table : Option Sums) → FilesReadAs run.file run.sums main table
      → LoadingEnd prints run main table outcome → Parts prints run outcome

module _ (prints : Prints) (run : Given) (outcome : Outcome) where
  pub parts : QueryEnds prints run outcome → Parts prints run outcome
  parts (bad_main place misread none says) = unread (inl (place, misread, says)) none
  parts (bad_sums main report is misread none says) = unread (inr (main, report, is, misread, says)) none
  parts (device main table name are due one says) = are_read _ _ are (is_broken _ due one says)
  parts (too_many main table are read over none says) = are_read main _ are (is_many read over none says)
  parts (faulty main table first others found says) = are_read main _ found.read (is_known _ found says)
  parts (no_fault main table found says) = are_read main _ found.read (is_known [] found says)

  pub joined : Parts prints run outcome → QueryEnds prints run outcome
  joined (unread (inl (place, misread, says)) none) = bad_main _ misread none says
  joined (unread (inr (main, report, is, misread, says)) none) = bad_sums _ _ is misread none says
  joined (are_read main table are (is_broken name due one says)) = device main _ name are due one says
  joined (are_read main table are (is_many read over none says)) = too_many main _ are read over none says
  joined (are_read main table are (is_known (first ∷ others) found says)) = faulty main _ _ _ found says
  joined (are_read main table are (is_known [] found says)) = no_fault main _ found says

module _ (run : Given) (outcome : Outcome) where
  -- a query ends as queries do
  pub query_ends : (command : Command) → is_query command ≡ true → RunEnds command run outcome → QueryEnds (PrintsOf command) run outcome
  query_ends Graph query is = is
  query_ends (Rows after limit) query is = is
  query_ends (Chain path) query is = is
  query_ends command query is = absurd (false≢true query)

  -- and the reverse
  pub ends_query : (command : Command) → is_query command ≡ true → QueryEnds (PrintsOf command) run outcome → RunEnds command run outcome
  ends_query Graph query is = is
  ends_query (Rows after limit) query is = is
  ends_query (Chain path) query is = is
  ends_query command query is = absurd (false≢true query)
