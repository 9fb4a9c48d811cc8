-- A run that is done has an answer for every file that it needs.
use Rattle.std.proofs.Common.{◌≡◌, ◌∙◌, ℕ, Bool, List, [], Option, Some, false, true, ap, arith, inl, inr}
use Rattle.gm_store_parts.specs.Asked.{Name, Reply, absent, answer_in, bytes, mod_file, too_long}
use Rattle.gm_store_sums.specs.Sums.{Sums}
use Rattle.gm_file.specs.Main.{Main}
use Rattle.gm_graph.specs.declared.fault.Fault.{Fault}
use Rattle.gm_graph_cache.specs.Sayings.{Run, run_of}
use Rattle.gm_graph.proofs.RunLemmas.{needed, settled_answers}
use Rattle.gomod_texts.specs.Queries.{AreFound, Given, Prints, QueryEnds}
use Rattle.gomod_outcomes.specs.Needs.{AnsweredAll, AnswersByName, GraphNeeds}
use Rattle.gomod_texts.specs.Outcome.{OrNoMemory, Outcome}
use Rattle.gomod_texts.proofs.StoresAgree.{itself, stores_agree}
use Rattle.gomod_texts.proofs.PrintedList.{printed_run}
use Rattle.gomod_outcomes.proofs.OneVersions.{alike_itself, none_needed, one_latest, one_listed, shown_listed}
use Rattle.gomod_words.specs.declared.usage.Command.{Command}
use Rattle.gomod_words.specs.declared.usage.Command.TheVariants.{Fmt, Edit, Versions}
use Rattle.gomod_outcomes.specs.Runs.{Needs, RunEnds}
use Rattle.gomod_outcomes.specs.Versions.{AreShown, VersionsEnds, VersionsNeed, all_listed, bad_file, device, list_refusal, no_list, not_retracted, printed}

-- ---- each file that is needed is answered

-- what the answers need by any reading of the two files, they need by this one
graph_answered : (run : Given) (main : Main) (table : Option Sums) (faults : List Fault)
    → AreFound run main table faults → AnsweredAll (GraphNeeds run.file run.sums) (answer_in run.answers.asked)
graph_answered run main table faults found name needs =
    let theirs = run_of _ _ _ in
    let ours : Run = run_of main table _ in
    let agrees = stores_agree run run _ main _ table (itself run) needs.read found.read found.settled in
    settled_answers main table _ found.settled name (needed theirs ours agrees name needs.calls.needed)

-- ---- what `versions` needs

-- the list, if the path is fetchable, and the go.mod of the latest version, if that is needed
shown_answered : (path : List ℕ) (all : Bool) (answers : AnswersByName) (shown : List (List ℕ))
    → AreShown path all answers shown → AnsweredAll (VersionsNeed path all) answers
shown_answered path all answers shown are name (inl (fetchable, same)) =
    let (versions, is) = shown_listed _ all answers shown are in (bytes is.list, ap answers same ∙ is.answered)
shown_answered path all answers shown (all_listed is every) name (inr (versions, latest, same, needed)) =
    let same = one_listed path all _ answers (alike_itself path all _) needed.listed is in
    absurd (none_needed path all _ shown versions latest same every needed)
shown_answered path all answers shown (not_retracted versions latest reply _ _ says _ _) name (inr (others, last, same, needed)) =
    let latest_same = one_latest path all _ _ (alike_itself path all _) others versions last latest needed says.chosen in
    (reply, ap answers (same ∙ ap (mod_file path) latest_same.1) ∙ says.answered)

-- the report that there is no list has the status of a refusal
pub refusal_status : (path : List ℕ) (fetchable : Bool) (answer : Option Reply) (outcome : Outcome)
    → list_refusal path fetchable answer ≡ Some outcome → outcome.status ≡ 1
refusal_status path false answer outcome is = cc
refusal_status path true (Some absent) outcome is = cc
refusal_status path true (Some too_long) outcome is = cc
refusal_status path true answer outcome is = absurd (cc is)

-- ---- runs that are done

query_done : (prints : Prints) (run : Given) (outcome : Outcome) → QueryEnds prints run outcome → outcome.status ≡ 0
    → AnsweredAll (GraphNeeds run.file run.sums) (answer_in run.answers.asked)
query_done prints run outcome is done =
    let (main, table, found, says) = printed_run _ _ _ is done in graph_answered _ _ _ [] found

versions_done : (path : List ℕ) (all : Bool) (answers : AnswersByName) (failed : List Name) (outcome : Outcome)
    → VersionsEnds path all answers failed outcome → outcome.status ≡ 0
    → AnsweredAll (VersionsNeed path all) answers
versions_done path all answers failed outcome (printed shown are none told) done = shown_answered _ all _ _ are
versions_done path all answers failed outcome (no_list refused none) done =
    let code = refusal_status _ _ _ _ refused in absurd (omega (arith, code, done))
versions_done path all answers failed outcome (device _ _ _ _ told) done = let code = ap (λ o. o.status) told in absurd (omega (arith, code, done))
versions_done path all answers failed outcome (bad_file _ _ _ _ _ _ told) done =
    let code = ap (λ o. o.status) told in absurd (omega (arith, code, done))

-- a run of a command whose outcome has the status of a done run has all answers that it needs
pub done_answers : (command : Command) (run : Given) (outcome : Outcome) → RunEnds command run outcome
    → outcome.status ≡ 0 → AnsweredAll (Needs command run.file run.sums) (answer_in run.answers.asked)
done_answers Fmt run outcome is done = λ name need. absurd need
done_answers (Edit operations) run outcome is done = λ name need. absurd need
done_answers (Versions path all) run outcome is done = versions_done _ _ _ _ _ is done
done_answers command run outcome is done = query_done _ _ _ is done

-- the same where memory may have run out: its report has another status
pub done_if_memory : (command : Command) (run : Given) (outcome : Outcome) → OrNoMemory (RunEnds command run) outcome → outcome.status ≡ 0
    → AnsweredAll (Needs command run.file run.sums) (answer_in run.answers.asked)
done_if_memory command run outcome (inl is) done = done_answers _ _ _ is done
done_if_memory command run outcome (inr memory) done = let code = ap (λ o. o.status) memory in absurd (omega (arith, code, done))
