-- What the commands do with what was found.
use Rattle.std.proofs.Common.{◌≡◌, ◌∙◌, ◌++◌, ℕ, Bool, List, [], ◌∷◌, Option, None, Result, Ok, Err, IfOk, MatchResult, sym, refl, subst, ap, inl, inr, append-nil, drop, length}
use Rattle.std.proofs.Math.Logic.{⊎_map}
use Rattle.std.proofs.Math.Seq.{drop-append_seam}
use Rattle.std.proofs.lemmas.List.{append_cancel_left}
use Rattle.gm_store_parts.specs.Asked.{Name, Reply, answer_in, name_of, names_in}
use Rattle.gm_store_parts.specs.States.{HasServed, StoreState}
use Rattle.gm_store_parts.proofs.Serving.{nothing_served}
use Rattle.gm_store_parts.specs.declared.files.FileName.{FileName}
use Rattle.gm_store_sums.specs.Sums.{Sums}
use Rattle.gm_file.specs.declared.misreading.BytesFault.{BytesFault}
use Rattle.gm_file.specs.Directives.{Strict}
use Rattle.gm_file.specs.Main.{Main, IsMainFile}
use Rattle.gm_file.specs.Misreading.{IsBytesFault}
use Rattle.gm_graph_cache.specs.Refusals.{refused_in, refused_names}
use Rattle.gm_graph_cache.specs.declared.cache.load_fault.LoadFault.{LoadFault}
use Rattle.gm_graph_cache.specs.declared.cache.load_fault.LoadFault.TheVariants as load
use Rattle.gm_graph_select.specs.Graph.{among, edge}
use Rattle.gm_graph_select.proofs.Same.{same_chain}
use Rattle.gm_graph.specs.declared.fault.Fault.{Fault}
use Rattle.gm_graph.specs.Run.{AreTooMany, AskedInTurn, IsDue, IsEdge, IsRead, LoadingNeeds}
use Rattle.gm_graph_cache.specs.Sayings.{Run, run_of}
use Rattle.gm_graph.specs.Outcome.{IsLoaded, LoadedGraph as Loaded}
use Rattle.gomod_texts.specs.FromFaults.{report_by_bytes, report_by_load}
use Rattle.gomod_texts.specs.Outcome.{OrNoMemory, Outcome, failure_outcome, refusal_outcome, report_outcome}
use Rattle.gomod_texts.specs.Reports.{device_line}
use Rattle.gomod_outcomes.specs.declared.queries.query.Query.{Query}
use Rattle.gomod_outcomes.specs.declared.queries.query.Query.TheVariants.{Graph, List as Rows, Chain}
use Rattle.gomod_texts.specs.Queries.{AreFound, AreInvalidSums, FilesReadAs, Given, Prints, QueryEnds, answers_of, device, faulty, given_of, no_fault, too_many}
use Rattle.gomod_outcomes.specs.Needs.{AnswersByName, FailsInTurn, GraphNeeds}
use Rattle.gomod_outcomes.specs.Private.Refusals.{IsRefusedRead}
use Rattle.gomod_outcomes.specs.Runs.{ComesTo, Needs, RunEnds, command_of, run_between}
use Rattle.gomod_outcomes.specs.Private.ByCommand.{PrintsOf}
use Rattle.gomod_outcomes.specs.Versions.{IsRefusedList}
use Rattle.gomod_outcomes.proofs.AllAsked.{done_if_memory}
use Rattle.gomod_outcomes.proofs.QueryParts.{joined, unread}
use Rattle.gomod_outcomes.proofs.InTurn.{loading_in_turn, loading_needs}
use Rattle.gm_graph.proofs.Dues.{none_in_turn}
use Rattle.gomod_words.specs.declared.usage.Command.{Command}
use Rattle.gomod_words.specs.declared.usage.Command.TheVariants.{Versions}
use Rattle.gomod_outcomes.specs.Private.Found.{IsOutcomeOfFound, PrintsFound, ReportsFaultsOr}
use Rattle.gomod_texts.proofs.MainMisreading.{main_refused}

-- ---- what is printed

-- a command prints the same of what was found as of the run
prints_for : (query : Query) {run : Run} {asked : List Name} {loaded : Loaded} (outcome : Outcome) → IsLoaded run asked loaded
    → PrintsFound query run.main loaded outcome → PrintsOf (command_of query) run outcome
prints_for Graph {loaded} outcome is prints = (loaded.edges, is.edges, prints)
prints_for (Rows after limit) {loaded} outcome is prints = (loaded.rows, is.rows, prints)
prints_for (Chain path) {run} {loaded} outcome is (inl (s, steps, entry, chain, says)) =
    (loaded.rows, is.rows, inl (s, steps, entry, same_chain (among loaded.edges) (IsEdge run) (λ t y. is.edges.each (edge t y)) chain, says))
prints_for (Chain path) {loaded} outcome is (inr unlisted) = (loaded.rows, is.rows, inr unlisted)

by_faults : {prints : Prints} {run : Given} {main : Main} {table : Option Sums} {shows : Type 0} {outcome : Outcome} (faults : List Fault)
    → AreFound run main table faults → (shows → prints (run_of main table run.answers.asked) outcome) → ReportsFaultsOr faults shows outcome
    → QueryEnds prints run outcome
by_faults {main} {table} [] found prints told = no_fault _ _ found (prints told)
by_faults {main} {table} (first ∷ others) found prints told = faulty _ _ _ _ found told

-- ---- what was read

-- a main module's file that was not read refuses both
pub main_told : (file : List ℕ) (sums : Option (List ℕ)) (fault : BytesFault) → IsBytesFault Strict file fault
    → OrNoMemory (IsRefusedRead file sums) (report_outcome (report_by_bytes fault))
main_told file sums fault is = ⊎_map (λ malformed. inl malformed) (λ memory. memory) (main_refused _ _ is)

-- the go.sum is reported
abbrev pub AreReported : Option (List ℕ) → Outcome → Type 0
AreReported sums outcome = (report : List ℕ) × AreInvalidSums sums report × (outcome ≡ refusal_outcome report)

-- a go.sum that was not read refuses both, after a main module's file that was read
pub sums_told : (file : List ℕ) (sums : Option (List ℕ)) (main : Main) (outcome : Outcome) → IsMainFile file main
    → OrNoMemory (AreReported sums) outcome → OrNoMemory (IsRefusedRead file sums) outcome
sums_told file sums main outcome is = ⊎_map (λ reported. inr (main, reported.0, is, reported.1, reported.2)) (λ memory. memory)

-- ---- what a run comes to

-- the names on which the device failed in a run
failed_in : (old new failing : List Name) → new ≡ old ++ failing → drop (length old) new ≡ failing
failed_in old new failing grown = ap (drop (length old)) grown ∙ drop-append_seam old _

-- if `versions` has no list to read, that is reported
abbrev pub ReportsNoList : Command → StoreState → Outcome → Type 0
ReportsNoList command new outcome =
    (path : List ℕ) (all : Bool) (other : Outcome) → command ≡ Versions path all → IsRefusedList path (answer_in new.asked) other → outcome ≡ other

module _ (command : Command) (file : List ℕ) (sums : Option (List ℕ)) (before after : Name → Option Reply → Type 0) (old new : StoreState) (outcome : Outcome)
    (in_turn : AskedInTurn (Needs command file sums) new.asked) (served : HasServed before after old new) (no_list : ReportsNoList command new outcome) where
  comes : (failing : List Name) → new.refused ≡ old.refused ++ failing
      → OrNoMemory (RunEnds command (given_of file sums (answers_of new.asked failing))) outcome
      → FailsInTurn (Needs command file sums) old new → ((name : Name) → failing ≡ name ∷ [] → outcome ≡ failure_outcome (device_line name))
      → ComesTo command file sums before after old new outcome
  comes failing grown ends fails reported =
      let ended : OrNoMemory (RunEnds command (run_between file sums old new)) outcome = rw (failed_in _ _ _ grown) ends in
      record {
        ends = ended;
        holds = record {
          in_turn = in_turn;
          all_answered = λ done. done_if_memory _ _ _ ended done;
          fails = fails;
          served = served;
          device = λ name also. reported name (append_cancel_left old.refused _ _ (sym grown ∙ also));
          no_list = no_list;
        };
      }

  -- the device failed at no file
  pub still_comes : new.refused ≡ old.refused → OrNoMemory
      (RunEnds command (given_of file sums (answers_of new.asked []))) outcome
      → ComesTo command file sums before after old new outcome
  still_comes still ends = comes [] (still ∙ sym (append-nil old.refused)) ends (inl still) (λ name same. cc same)

  -- it failed at a file that is needed
  pub broken_comes : (name : Name) → new.refused ≡ old.refused ++ name ∷ []
      → Needs command file sums (answer_in new.asked) name → answer_in new.asked name ≡ None
      → RunEnds command (given_of file sums (answers_of new.asked (name ∷ []))) outcome
      → outcome ≡ failure_outcome (device_line name) → ComesTo command file sums before after old new outcome
  broken_comes name grown needed unanswered ends is =
      comes (name ∷ []) grown (inl ends) (inr (name, needed, unanswered, grown))
      (λ other tail. let same : name ≡ other = cc tail in is ∙ ap (λ (n : Name). failure_outcome (device_line n)) same)

-- a run that asks for nothing
pub unasked_comes : (command : Command) (file : List ℕ) (sums : Option (List ℕ)) (may : Name → Option Reply → Type 0) (state : StoreState) (outcome : Outcome)
    → ((path : List ℕ) (all : Bool) → command ≡ Versions path all → ⊥) → state.asked ≡ []
    → OrNoMemory (RunEnds command (given_of file sums (answers_of state.asked []))) outcome
    → ComesTo command file sums may may state state outcome
unasked_comes command file sums may state outcome other none ends =
    still_comes command file sums may may state state outcome (none_in_turn (Needs command file sums) state.asked none) (nothing_served may state)
    (λ path all report is. absurd (other path all is)) refl ends

-- ---- what a query comes to

-- its end is that of its command
of_query : (query : Query) (run : Given) (outcome : Outcome) → QueryEnds (PrintsOf (command_of query)) run outcome → RunEnds (command_of query) run outcome
of_query Graph run outcome is = is
of_query (Rows after limit) run outcome is = is
of_query (Chain path) run outcome is = is

-- it needs the files of a module graph, and no list
graph_needs : (query : Query) (file : List ℕ) (sums : Option (List ℕ)) → Needs (command_of query) file sums ≡ GraphNeeds file sums
graph_needs Graph file sums = refl
graph_needs (Rows after limit) file sums = refl
graph_needs (Chain path) file sums = refl

no_versions : (query : Query) (path : List ℕ) (all : Bool) → command_of query ≡ Versions path all → ⊥
no_versions Graph path all is = cc is
no_versions (Rows after limit) path all is = cc is
no_versions (Chain named) path all is = cc is

-- one of its files is invalid
pub refused_read : (query : Query) (file : List ℕ) (sums : Option (List ℕ)) (may : Name → Option Reply → Type 0) (state : StoreState) (outcome : Outcome)
    → state.asked ≡ [] → OrNoMemory (IsRefusedRead file sums) outcome → ComesTo (command_of query) file sums may may state state outcome
refused_read query file sums may state outcome none refused =
    unasked_comes _ _ _ may _ _ (no_versions _) none
    (⊎_map (λ is. of_query _ run _ (joined (PrintsOf (command_of query)) run outcome (unread is (none, refl)))) (λ memory. memory) refused)
  where
    run : Given
    run = given_of file sums (answers_of state.asked [])

-- both files are valid
module _ (query : Query) (file : List ℕ) (sums : Option (List ℕ)) (main : Main) (table : Option Sums) (read : FilesReadAs file sums main table)
    (before after : Name → Option Reply → Type 0) (old new : StoreState)
    (asks : AskedInTurn (LoadingNeeds main table) new.asked) (served : HasServed before after old new) where
  in_turn : AskedInTurn (Needs (command_of query) file sums) new.asked
  in_turn = subst (λ needs. AskedInTurn needs new.asked)
      (sym (graph_needs _ _ _)) (loading_in_turn file sums main table read asks)

  still : (outcome : Outcome) → new.refused ≡ old.refused ++ []
      → OrNoMemory (QueryEnds (PrintsOf (command_of query)) (given_of file sums (answers_of new.asked []))) outcome
      → ComesTo (command_of query) file sums before after old new outcome
  still outcome same ends =
      still_comes (command_of query) file sums before after old new outcome in_turn served
      (λ path all other is. absurd (no_versions _ _ _ is)) (same ∙ append-nil _)
      (⊎_map (of_query _ _ _) (λ memory. memory) ends)

  -- loading was refused
  not_loaded : (fault : LoadFault)
      → (fault ≡ load.TooMany → IsRead (run_of main table new.asked) × AreTooMany (run_of main table new.asked))
      → ((name : FileName) → fault ≡ load.Device name → IsDue (run_of main table new.asked) (name_of name))
      → new.refused ≡ old.refused ++ refused_names fault
      → ComesTo (command_of query) file sums before after old new (report_outcome (report_by_load fault))
  not_loaded load.NoMemory many due same = still _ same (inr refl)
  not_loaded load.TooMany many due same = still _ same (inl (let over = many refl in too_many main table read over.0 over.1 refl refl))
  not_loaded (load.Device name) many due one =
      broken_comes (command_of query) file sums before after old new _ in_turn served
      (λ path all other is. absurd (no_versions query path all is)) (name_of name) one
      (subst (λ (needs : AnswersByName → Name → Type 0). needs (answer_in new.asked) (name_of name))
      (sym (graph_needs query file sums)) (loading_needs file sums main table read (answer_in new.asked)
      (name_of name) (due name refl).calls))
      (due name refl).unasked (of_query query (given_of file sums (answers_of new.asked (name_of name ∷ []))) _
      (device main table (name_of name) read (due name refl) refl refl)) refl

  -- loading found a graph
  found_graph : (loaded : Loaded) (outcome : Outcome) → IsLoaded (run_of main table new.asked) (names_in new.asked) loaded
      → new.refused ≡ old.refused ++ [] → OrNoMemory (IsOutcomeOfFound query main loaded) outcome
      → ComesTo (command_of query) file sums before after old new outcome
  found_graph loaded outcome found same told =
      still _ same
      (⊎_map (by_faults _ (record { read = read; settled = found.settled; faults_are = found.faults; none_failed = refl })
      (prints_for _ _ found))
      (λ memory. memory) told)

  -- it found one, or was refused
  pub loading_comes : (result : Result Loaded LoadFault) (outcome : Outcome)
      → IfOk result (IsLoaded (run_of main table new.asked) (names_in new.asked))
      → (result ≡ Err load.TooMany → IsRead (run_of main table new.asked) × AreTooMany (run_of main table new.asked))
      → ((name : FileName) → result ≡ Err (load.Device name) → IsDue (run_of main table new.asked) (name_of name))
      → new.refused ≡ old.refused ++ refused_in result
      → MatchResult result (λ loaded. OrNoMemory (IsOutcomeOfFound query main loaded) outcome) (λ fault. outcome ≡ report_outcome (report_by_load fault))
      → ComesTo (command_of query) file sums before after old new outcome
  loading_comes (Ok loaded) outcome is many due grown told = found_graph loaded outcome is grown told
  loading_comes (Err fault) outcome is many due grown told =
      rw told (not_loaded fault (λ same. many (ap Err same)) (λ name same. due name (ap Err same)) grown)
