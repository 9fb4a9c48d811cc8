-- How a run of a command ends, given what was read and answered, and the files that it asks a store for.
use Rattle.std.specs.Prelude.{◌≡◌, ◌++◌, ◌∷◌, ℕ, Bool, List, [], Option, false, true, drop, length}
use Rattle.std.specs.Option.{option_copied}
use Rattle.gm_store_parts.specs.States.{HasServed, StoreState}
use Rattle.gm_store_parts.specs.Asked.{Name, Reply, answer_in}
use Rattle.gm_graph.specs.Run.{AskedInTurn}
use Rattle.gomod_outcomes.specs.declared.queries.query.Query.{Query}
use Rattle.gomod_outcomes.specs.declared.queries.query.Query.TheVariants as query
use Rattle.gomod_texts.specs.Outcome.{OrNoMemory, Outcome, failure_outcome}
use Rattle.gomod_texts.specs.Reports.{device_line}
use Rattle.gomod_outcomes.specs.Needs.{AnsweredAll, AnswersByName, FailsInTurn, GraphNeeds}
use Rattle.gomod_words.specs.Usage.{texts_in}
use Rattle.gomod_words.specs.declared.usage.Command.{Command}
use Rattle.gomod_words.specs.declared.usage.Command.TheVariants.{Fmt, Edit, Versions, Graph, List as Rows, Chain}
use Rattle.gomod_outcomes.specs.Edit.{EditEnds}
use Rattle.gomod_outcomes.specs.Versions.{IsRefusedList, VersionsEnds, VersionsNeed}
use Rattle.gomod_texts.specs.Queries.{Answers, Given, answers_of, given_of}
use Rattle.gomod_texts.specs.ChainQuery.{ChainEnds}
use Rattle.gomod_texts.specs.GraphQuery.{GraphEnds}
use Rattle.gomod_texts.specs.ListQuery.{ListEnds}
use Rattle.gomod_outcomes.specs.Fmt.{FmtEnds}

-- ---- commands

-- whether a command is a query on a module graph; no other command reads a go.sum
abbrev pub is_query : Command → Bool
is_query Graph = true
is_query (Rows after limit) = true
is_query (Chain path) = true
is_query _ = false

-- the command that asks this
abbrev pub command_of : Query → Command
command_of query.Graph = Graph
command_of (query.List after limit) = Rows (option_copied after) limit
command_of (query.Chain path) = Chain path.now

-- ---- ends

-- how a run of a command ends, if memory doesn't run out
abbrev pub RunEnds : Command → Given → Outcome → Type 0
RunEnds Fmt run outcome = FmtEnds run.file outcome
RunEnds (Edit operations) run outcome = EditEnds (texts_in operations) run.file outcome
RunEnds (Versions path all) run outcome = VersionsEnds path all (answer_in run.answers.asked) run.answers.failed outcome
RunEnds Graph run outcome = GraphEnds run outcome
RunEnds (Rows after limit) run outcome = ListEnds after limit run outcome
RunEnds (Chain path) run outcome = ChainEnds path run outcome

-- what a store that had not been asked before was asked in a run, with its answers, and where its device failed
abbrev pub answers_between : StoreState → StoreState → Answers
answers_between old new = answers_of new.asked (drop (length old.refused) new.refused)

-- the run over these bytes and such a store
abbrev pub run_between : List ℕ → Option (List ℕ) → StoreState → StoreState → Given
run_between main sums old new = given_of main sums (answers_between old new)

-- ---- however a run ends

-- the files that a command needs, given the answers so far
abbrev pub Needs : Command → List ℕ → Option (List ℕ) → AnswersByName → Name → Type 0
Needs Fmt main sums answers name = ⊥
Needs (Edit operations) main sums answers name = ⊥
Needs (Versions path all) main sums answers name = VersionsNeed path all answers name
Needs _ main sums answers name = GraphNeeds main sums answers name

-- What holds however a run of a command ends, with this status and these reports. `before` says what might come of
-- asking its store for a name before the run, `after` what may come of it after the run: an answer, or none if its
-- device may fail.
pub record HoldsAtAnyEnd (command : Command) (main : List ℕ) (sums : Option (List ℕ))
    (before after : Name → Option Reply → Type 0) (old new : StoreState) (status : ℕ) (reports : Outcome → Type 0)
    : Type 0 where
  -- Each file is asked for once, and is needed by the answers before it.
  pub in_turn : AskedInTurn (Needs command main sums) new.asked
  -- A run that is done has an answer for every file that it needs.
  pub all_answered : status ≡ 0 → AnsweredAll (Needs command main sums) (answer_in new.asked)
  -- The device fails at one file at most, which is needed by the answers and is not among them.
  pub fails : FailsInTurn (Needs command main sums) old new
  -- Each answer is one that the store may give, and nothing else becomes possible. The device fails only at a file at
  -- which it may, and only if the count of its failures rises in this run, or stood at its maximum before it; the count
  -- never falls.
  pub served : HasServed before after old new
  -- If the device failed at a file, that is reported, whatever the memory.
  pub device : (name : Name) → new.refused ≡ old.refused ++ name ∷ [] → reports (failure_outcome (device_line name))
  -- If `versions` can't have a list, has none, or one that is too long, that is reported, whatever the memory.
  pub no_list : (path : List ℕ) (all : Bool) (outcome : Outcome) → command ≡ Versions path all
      → IsRefusedList path (answer_in new.asked) outcome → reports outcome

-- a run of a command over a store that had not been asked before comes to this outcome
pub record ComesTo (command : Command) (main : List ℕ) (sums : Option (List ℕ))
    (before after : Name → Option Reply → Type 0) (old new : StoreState) (outcome : Outcome) : Type 0 where
  pub ends : OrNoMemory (RunEnds command (run_between main sums old new)) outcome
  pub holds : HoldsAtAnyEnd command main sums before after old new outcome.status (λ reported. outcome ≡ reported)
