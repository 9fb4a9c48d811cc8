-- Runs over folders in memory, with one more folder and without it.
use Rattle.std.proofs.Common.{◌≡◌, ◌↔◌, ◌∙◌, ◌++◌, ◌∷◌, ℕ, Bool, List, [], Option, Some, None, Result, Ok, Err, Contains, ap, inl, inr, refl, subst, sym, true}
use Rattle.std.proofs.lemmas.List.Elements.{Contains-push_cases}
use Rattle.gm_file.specs.Fields.{Dependency}
use Rattle.gm_store_parts.specs.Asked.{Name, Reply, absent, answer_in, bytes, list_file, mod_file, names_in, too_long}
use Rattle.gm_store_sums.specs.Sums.{Sums}
use Rattle.gm_graph_files.specs.declared.class.Class.{Class}
use Rattle.gm_file.specs.Main.{Main}
use Rattle.gm_graph_files.specs.Reading.{IsFileReading}
use Rattle.gm_graph_cache.proofs.Sayings.{answer_stays}
use Rattle.gm_graph_select.proofs.Ascending.{no_member}
use Rattle.gm_graph_select.proofs.RankedLists.{in_mapped}
use Rattle.gm_graph.specs.declared.fault.Fault.{Fault}
use Rattle.gm_graph.specs.Run as graph
use Rattle.gm_graph_cache.specs.Sayings as sayings
use Rattle.gm_graph.specs.Run.{AreFaults, AskedInTurn, IsSettled}
use Rattle.gm_graph_cache.specs.Sayings.{run_of}
use Rattle.gm_graph.proofs.Exactly.{names_push}
use Rattle.gm_graph.proofs.RunLemmas.{needed}
use Rattle.gomod_texts.specs.QueryLaws.{AnswerAlike}
use Rattle.gomod_texts.specs.Queries.{AreFound, answers_of, given_of}
use Rattle.gomod_outcomes.specs.Needs.{AnswersByName}
use Rattle.gomod_texts.specs.Outcome.{Outcome}
use Rattle.gomod_texts.proofs.StoresAgree.{alike_back, stores_agree}
use Rattle.gomod_words.specs.declared.usage.Command.{Command}
use Rattle.gomod_words.specs.declared.usage.Command.TheVariants.{Fmt, Edit, Versions}
use Rattle.gomod_outcomes.specs.Runs.{Needs, is_query}
use Rattle.gomod_outcomes.specs.Versions.{AreShown, IsLatestListed, VersionsEnds, VersionsNeed, all_listed, not_retracted}
use Rattle.gomod_outcomes.proofs.AllAsked.{done_answers}
use Rattle.gomod_outcomes.proofs.Answering.{answered_in}
use Rattle.gomod_laws.proofs.RunsOnce.{one_for_stores}
use Rattle.gomod_outcomes.proofs.OneVersions.{alike_itself, none_needed, one_latest, one_listed, same_answer, shown_listed}
use Rattle.gomod_laws.specs.FolderLaws.{FolderMayAnswer, MoreFoldersChangeNothing}
use Rattle.gomod_laws.specs.Runs.{HasPrinted}
use Rattle.gomod_laws.specs.Shown.{run_over}
use Rattle.gomod_laws.proofs.Ended.{Ends}
use Rattle.gomod_laws.proofs.FolderWalks.{found_again}
use Rattle.gomod_laws.proofs.PrintedRuns.{Pairs, valid_files}
use Rattle.gomod_laws.proofs.VersionRuns.{shown_printed}

-- ---- the files that were asked for

abbrev pub Keeps : AnswersByName → AnswersByName → Type 0
Keeps one other = (name : Name) (reply : Reply) → one name ≡ Some reply → other name ≡ Some reply

-- files that the answers need, and that more answers need too
abbrev pub Grows : (AnswersByName → Name → Type 0) → Type 0
Grows needs = (one other : AnswersByName) → Keeps one other → (name : Name) → needs one name → needs other name

-- each file that was asked for is needed by all answers
pub needed_in_turn : (needs : AnswersByName → Name → Type 0) → Grows needs → {asked : Pairs} → AskedInTurn needs asked
    → (name : Name) → Contains (names_in asked) name
    → needs (answer_in asked) name
needed_in_turn needs grows graph.nothing one there = absurd (no_member _ there)
needed_in_turn needs grows (graph.more {pairs} {name} reply asks need unasked) one there =
    let longer = pairs ++ (name, reply) ∷ [] in
    let still =
    grows (answer_in pairs) (answer_in longer) (λ n r e. answer_stays _ _ n r e) in
    elim (Contains-push_cases _ _ _ (rw (names_push _ _ _) at there)) [
      | inl before ↦ still one (needed_in_turn _ grows asks _ before)
      | inr same ↦ subst (needs (answer_in longer)) same (still name need)
    ]

-- if no file is needed, none is asked for
none_asked : {asked : Pairs} → AskedInTurn (λ answers name. ⊥) asked → (name : Name) → Contains (names_in asked) name → ⊥
none_asked turn name there = needed_in_turn (λ answers name. ⊥) (λ one other keeps n need. need) turn _ there

pub answered_name : (asked : Pairs) (name : Name) (reply : Reply) → answer_in asked name ≡ Some reply → Contains (names_in asked) name
answered_name asked name reply e = in_mapped (λ pair. pair.0) _ _ (answered_in _ _ _ e)

-- ---- an answer that was read is a file

abbrev pub IsFile : Reply → Type 0
IsFile reply = (content : List ℕ) × (reply ≡ bytes content)

read_is_file : (sums : Option Sums) (name : Name) (reply : Reply) (file : Dependency) → IsFileReading sums name reply (Ok file) → IsFile reply
read_is_file sums name absent file is = cc is
read_is_file sums name too_long file is = cc is
read_is_file sums name (bytes content) file is = (content, refl)

-- ---- `versions`

-- the go.mod of a latest version, which is needed over one store's answers, and over others that have the same list
abbrev NeedsLatest : List ℕ → Bool → AnswersByName → Name → Type 0
NeedsLatest path all answers name =
    (versions : List (List ℕ)) × (latest : List ℕ) × (name ≡ mod_file path latest) × IsLatestListed path all answers versions latest

latest_again : {path : List ℕ} {all : Bool} (one other : AnswersByName) {name : Name}
    → ((list : List ℕ) → one (list_file path) ≡ Some (bytes list) → other (list_file path) ≡ Some (bytes list))
    → NeedsLatest path all one name → NeedsLatest path all other name
latest_again one other moved (versions, latest, same, is) = (
  versions,
  latest,
  same,
  record {
    filtered = is.filtered;
    listed = record {
      fetchable = is.listed.fetchable;
      list = is.listed.list;
      answered = moved is.listed.list is.listed.answered;
      listed = is.listed.listed;
    };
    greatest = is.greatest;
  },
)

pub versions_grow : (path : List ℕ) (all : Bool) → Grows (VersionsNeed path all)
versions_grow path all one other keeps name (inl list) = inl list
versions_grow path all one other keeps name (inr need) = inr (latest_again _ other (λ list. keeps (list_file path) (bytes list)) need)

module _ (path : List ℕ) (all : Bool) (told : AnswersByName) (outcome : Outcome) (prints : HasPrinted outcome)
    (ends : VersionsEnds path all told [] outcome) where
  abbrev shown : List (List ℕ)
  shown = (shown_printed _ _ _ _ prints ends).0

  are : AreShown path all told shown
  are = (shown_printed _ _ _ _ prints ends).1

  list_is_file : (reply : Reply) → told (list_file path) ≡ Some reply → IsFile reply
  list_is_file reply answered =
      let (versions, is) = shown_listed _ _ _ _ are in
      (is.list, same_answer _ _ _ answered is.answered)

  pub needed_is_file : (name : Name) (reply : Reply) → VersionsNeed path all told name → told name ≡ Some reply → IsFile reply
  needed_is_file name reply (inl (fetchable, same)) answered = list_is_file _ (rw same at answered)
  needed_is_file name reply (inr (versions, latest, same, is)) answered = by _ are
    where
      by : (these : List (List ℕ)) → AreShown path all told these → IsFile reply
      by these (all_listed listed every) =
          absurd (none_needed _ _ told _ _ latest (one_listed _ all _ _ (alike_itself path all told) is.listed listed) every is)
      by these (not_retracted others last other file intervals says retracted hidden) =
          let latest_same = (one_latest _ _ _ _ (alike_itself path all told) _ _ _ _ is says.chosen).1 in
          let again : told (mod_file path last) ≡ Some reply = rw (same ∙ ap (mod_file path) latest_same) at answered in
          let (content, content_is) = read_is_file None (mod_file path last) _ file says.says in
          (content, same_answer _ _ _ again says.answered ∙ content_is)

  -- the same files are needed over answers that name the same list
  needed_again : (other : AnswersByName) (name : Name) → ((a b : Reply) → other (list_file path) ≡ Some a → told (list_file path) ≡ Some b → a ≡ b)
      → VersionsNeed path all other name → VersionsNeed path all told name
  needed_again other name alike (inl list) = inl list
  needed_again other name alike (inr need) =
      let (others, listed) = shown_listed _ _ _ _ are in
      inr (latest_again _ _ (λ list answered.
      listed.answered ∙ ap Some (sym (alike (bytes list) (bytes listed.list) answered listed.answered))) need)

-- ---- queries

-- if no module has a fault, no answer is read as one
pub no_fault_read : (main : Main) (table : Option Sums) (asked : Pairs) → IsSettled (run_of main table asked) (names_in asked)
    → AreFaults (run_of main table asked) [] → (name : Name) (reply : Reply) (class : Class) → answer_in asked name ≡ Some reply
    → IsFileReading table name reply (Err class) → ⊥
no_fault_read main table asked settled none name reply class at is =
    let (x, opens, file, askable) = (settled.needed _).0 (answered_name _ _ _ at) in
    let one : Fault = record { vertex = x; class = class } in
    let says = sayings.answered reply askable at is in
    no_member _ ((none.each one).1 (opens, sayings.faulty (rw file says)))

-- what was asked for was read
asked_is_file : {file : List ℕ} {sums : Option (List ℕ)} {asked : Pairs} {main : Main} {table : Option Sums}
    → AreFound (run_over file sums asked) main table [] → (name : Name) (reply : Reply) → answer_in asked name ≡ Some reply → IsFile reply
asked_is_file {table} found name reply e = let (said, is) = found.settled.read name reply e in by _ is
  where
    by : (said : Result Dependency Class) → IsFileReading table name reply said → IsFile reply
    by (Ok content) is = read_is_file _ name _ content is
    by (Err class) is = absurd (no_fault_read _ _ _ found.settled found.faults_are name _ _ e is)

-- runs over answers that are alike ask for the same files
names_into : {file : List ℕ} {sums : Option (List ℕ)} {asked told : Pairs} {main again : Main} (t u : Option Sums) → AnswerAlike asked told
    → AreFound (run_over file sums asked) main t [] → AreFound (run_over file sums told) again u [] → (name : Name)
    → Contains (names_in asked) name → Contains (names_in told) name
names_into {file} {sums} {asked} t u alike found also name there =
    let agrees =
    stores_agree (run_over file sums asked) _ _ _ t u
    (record { file = refl; sums = refl; answers = alike; failed = refl }) found.read also.read also.settled in
    (also.settled.needed _).1 (needed _ (run_of _ u _) agrees _ ((found.settled.needed _).0 there))

-- ---- any command

-- a run over answers that are alike has the same outcome
pub same_outcome : (command : Command) (main : List ℕ) (sums : Option (List ℕ)) (asked told : Pairs) (a b : Outcome) → AnswerAlike asked told
    → Ends command main sums asked a → Ends command main sums told b → a ≡ b
same_outcome command main sums asked told a b alike run again =
    one_for_stores command (given_of main sums (answers_of asked [])) (given_of main sums (answers_of told [])) a b
    (record { file = refl; sums = refl; answers = alike; failed = refl }) run again

-- The run asked for what it needed, and printed.
pub record HasAskedAndPrinted (command : Command) (main : List ℕ) (sums : Option (List ℕ)) (asked : Pairs) (outcome : Outcome) : Type 0 where
  pub ends : Ends command main sums asked outcome
  pub in_turn : AskedInTurn (Needs command main sums) asked
  pub prints : HasPrinted outcome

module _ (main : List ℕ) (sums : Option (List ℕ)) where
  -- what a query asked for is what it needed, and was read
  pub query_is_file : (command : Command) (asked : Pairs) (outcome : Outcome) → is_query command ≡ true
      → Ends command main sums asked outcome → HasPrinted outcome
      → (name : Name) (reply : Reply) → answer_in asked name ≡ Some reply → IsFile reply
  query_is_file command asked outcome query run prints name reply e =
      let (says, table, found) = valid_files _ _ _ _ query run prints in
      asked_is_file found _ _ e

  -- a run that prints was answered with a file wherever it asked
  pub each_is_file : (command : Command) (asked : Pairs) (outcome : Outcome) → HasAskedAndPrinted command main sums asked outcome
      → (name : Name) (reply : Reply) → answer_in asked name ≡ Some reply → IsFile reply
  each_is_file Fmt asked outcome run name reply e = absurd (none_asked run.in_turn _ (answered_name _ _ _ e))
  each_is_file (Edit operations) asked outcome run name reply e = absurd (none_asked run.in_turn _ (answered_name _ _ _ e))
  each_is_file (Versions path all) asked outcome run name reply e =
      needed_is_file _ _ _ outcome run.prints run.ends _ _
      (needed_in_turn _ (versions_grow path all) run.in_turn _ (answered_name _ _ _ e)) e
  each_is_file command asked outcome run name reply e = query_is_file command asked outcome refl run.ends run.prints name _ e

  -- a file that one run asked for is one that the other asked for
  names_in_other : (command : Command) (asked told : Pairs) (a b : Outcome) → AnswerAlike asked told
      → HasAskedAndPrinted command main sums asked a → HasAskedAndPrinted command main sums told b
      → (name : Name) → Contains (names_in asked) name → Contains (names_in told) name
  names_in_other Fmt asked told a b alike run again name there = absurd (none_asked run.in_turn _ there)
  names_in_other (Edit operations) asked told a b alike run again name there = absurd (none_asked run.in_turn _ there)
  names_in_other (Versions path all) asked told a b alike run again name there =
      let need = needed_in_turn _ (versions_grow path all) run.in_turn _ there in
      let too = needed_again _ _ _ b again.prints again.ends _ _ (alike (list_file path)) need in
      let (reply, answered) = done_answers (Versions path all) (run_over main sums told) b again.ends again.prints name too in
      answered_name _ _ _ answered
  names_in_other command asked told a b alike run again name there =
      let (says, t, found) = valid_files command main sums a refl run.ends run.prints in
      let (tells, u, too) = valid_files command _ _ b refl again.ends again.prints in
      names_into t u alike found too _ there

  pub same_names : (command : Command) (asked told : Pairs) (a b : Outcome) → AnswerAlike asked told
      → HasAskedAndPrinted command main sums asked a → HasAskedAndPrinted command main sums told b
      → (name : Name) → Contains (names_in asked) name ↔ Contains (names_in told) name
  same_names command asked told a b alike run again name = (
    names_in_other _ _ _ a b alike run again name,
    names_in_other _ _ _ b a (alike_back _ _ alike) again run name,
  )

-- ---- one more folder

pub more_folders_change_nothing : MoreFoldersChangeNothing
more_folders_change_nothing command main sums folders others marks more asked told one other grows run prints again =
    let first : HasAskedAndPrinted command main sums asked one = record { ends = run.ends.0; in_turn = run.in_turn; prints = prints } in
    let alike : AnswerAlike told asked =
    λ name b a f e.
    let (content, is) = each_is_file _ _ _ _ _ first _ a e in
    let may : FolderMayAnswer folders marks name (Some (bytes content)) =
    rw is at (run.answers name a (answered_in _ _ a e)) in
    found_again _ _ _ _ grows _ _ b may (again.answers name b (answered_in _ _ b f)) ∙ sym is in
    let same = same_outcome _ _ _ _ _ _ _ alike again.ends.0 run.ends.0 in
    let also : HasPrinted other = ap (λ (o : Outcome). o.status) same ∙ prints in
    (same, same_names _ _ _ _ _ other _ alike (record { ends = again.ends.0; in_turn = again.in_turn; prints = also }) first)
