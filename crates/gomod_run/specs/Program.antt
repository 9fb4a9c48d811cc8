-- The outcomes of the whole program, from its words to its exit status.
use Rattle.std.specs.Prelude.{◌≡◌, ◌≢◌, ◌⊎◌, ◌++◌, ◌∷◌, ℕ, Contains, List, [], Option, Some, None, Ok, Err, codes, if◌then◌else◌, is_some, option_map, ⊤}
use Rattle.std.specs.Global.{Vec}
use Rattle.std.specs.String.{string_bytes}
use Rattle.gm_store_parts.specs.Asked.{Name, Reply, list_file, reply_for, same_name}
use Rattle.gm_store_parts.specs.Openings.{MayRead, Opening}
use Rattle.gm_store_parts.specs.Proxies.{folders_in, marks_in}
use Rattle.gm_store_parts.specs.declared.fallback.proxy_list.ProxyList.{ProxyList}
use Rattle.gm_store_parts.specs.declared.reading.ReadFault.TheVariants.{Device}
use Rattle.gm_store.specs.DiskAnswers.{MayAnswer}
use Rattle.gm_store.specs.Relative.{IsFolderOf}
use Rattle.gomod_words.specs.Given.{AreGiven, first_unreadable}
use Rattle.gomod_words.specs.Usage.{AskFor, IsFaultOf, unreadable_text}
use Rattle.gomod_words.specs.declared.usage.Command.{Command}
use Rattle.gomod_words.specs.declared.usage.Command.TheVariants.{Versions}
use Rattle.gomod_words.specs.declared.usage.Places.{Places}
use Rattle.gomod_words.specs.declared.usage.UsageFault.{UsageFault}
use Rattle.gomod_words.specs.declared.usage.UsageFault.TheVariants as usage
use Rattle.gomod_texts.specs.Queries.{Answers, given_of, longest}
use Rattle.gomod_texts.specs.Outcome.{Outcome, code_of, failure_outcome, out_of_memory, text_outcome}
use Rattle.gomod_texts.specs.Reports.{cannot_read_line}
use Rattle.gomod_run.specs.declared.ending.Ending.{Ending}
use Rattle.gomod_run.specs.declared.ending.Ending.TheVariants.{Run, Usage}
use Rattle.gomod_outcomes.specs.Runs.{RunEnds, is_query}

-- the report of a usage error, which no run ends with
abbrev pub usage_error : List ℕ → Outcome
usage_error text = record { text = []; report = text; status = 2 }

-- a usage error, or a request for help or the version
abbrev pub usage_outcome : UsageFault → Outcome
usage_outcome usage.NoMemory = out_of_memory
usage_outcome (usage.Help text) = text_outcome (string_bytes text)
usage_outcome (usage.Version text) = text_outcome (string_bytes text)
usage_outcome (usage.Line text) = usage_error (string_bytes text)
usage_outcome (usage.BadPath text) = usage_error (codes "gomod: bad path " ++ string_bytes text ++ codes "\n")
usage_outcome (usage.BadProxy text) = usage_error (codes "gomod: bad proxy " ++ string_bytes text ++ codes "\n")

-- In what follows `may_open` relates a path to what may come of opening the file there, and `may_take` says what may
-- come of taking standard input.

-- Anything may come of opening the file at a path.
abbrev pub anything : List ℕ → Opening → Type 0
anything path opening = Unit {0}

-- Anything may come of taking standard input.
abbrev pub any_input : Opening → Type 0
any_input opening = Unit {0}

-- what a FILE of the command line may give: standard input if it is `-`, otherwise the file with that name
abbrev pub FileGives : (List ℕ → Opening → Type 0) → (Opening → Type 0) → List ℕ → Opening → Type 0
FileGives may_open may_take name opening =
    ((name ≡ codes "-") × may_take opening) ⊎ ((name ≢ codes "-") × may_open name opening)

-- ---- what a command reads before it runs

-- the module whose versions a command lists: no other than `versions` lists any
abbrev pub versions_path : Command → Option (List ℕ)
versions_path (Versions path all) = Some path
versions_path _ = None

-- the main file, given its name: `versions` has none
abbrev pub main_input : Command → List ℕ → Option (List ℕ)
main_input command name = if is_some (versions_path command) then None else Some name

-- the go.sum, if one is named: only queries read one
abbrev pub sums_input : Command → Option (List ℕ) → Option (List ℕ)
sums_input command name = if is_query command then name else None

-- the list of the module for `versions` without proxy folders: standard input
abbrev pub list_input : Command → Option ProxyList → Option (List ℕ)
list_input command None = option_map (λ path. codes "-") (versions_path command)
list_input command (Some folders) = None

-- In what follows `may_give` relates a FILE to what it may give.

-- what was read of a FILE, if one is named
abbrev pub IsInput : (List ℕ → Opening → Type 0) → Option (List ℕ) → Option (Vec ℕ) → Type 0
IsInput may_give None None = ⊤
IsInput may_give (Some name) (Some content) = MayRead (may_give name) (Ok content)
IsInput may_give _ _ = ⊥

-- a FILE is named and can't be read, which is reported
abbrev pub IsUnread : (List ℕ → Opening → Type 0) → Option (List ℕ) → Outcome → Type 0
IsUnread may_give None outcome = ⊥
IsUnread may_give (Some name) outcome =
    MayRead (may_give name) (Err Device) × (outcome ≡ failure_outcome (cannot_read_line name))

-- the bytes that were read, if any
abbrev pub bytes_read : Option (Vec ℕ) → List ℕ
bytes_read None = []
bytes_read (Some content) = content.items

-- ---- what its store may answer

-- the file under a name in a store without proxy folders: the list of the module, if the versions of one are listed
abbrev pub file_in_memory : Option (List ℕ) → Option (Vec ℕ) → Name → Option (List ℕ)
file_in_memory (Some path) (Some list) name = if same_name name (list_file path) then Some list.items else None
file_in_memory _ _ name = None

-- the folder that a store on disk takes local folders from: that of the main file with this name; or the current one,
-- if the versions of a module are listed, since there is no main file then
abbrev pub IsFolderFor : Option (List ℕ) → List ℕ → List ℕ → Type 0
IsFolderFor (Some path) main folder = folder ≡ codes "."
IsFolderFor None main folder = IsFolderOf main folder

-- each answer is one that may come of asking for its name, and the device failed only where it may
abbrev pub AreAnswersBy : (Name → Option Reply → Type 0) → Answers → Type 0
AreAnswersBy may answers = ((name : Name) (reply : Reply) → Contains answers.asked (name, reply)
    → may name (Some reply))
    × ((name : Name) → Contains answers.failed name → may name None)

-- What the store of a command may answer, and at which files its device may fail: that of the named proxy folders, if
-- there are any, otherwise one in memory, whose device never fails.
abbrev pub MayBeAnswered : (List ℕ → Opening → Type 0) → Option (List ℕ) → List ℕ → Option (Vec ℕ) → Option ProxyList
    → Answers → Type 0
MayBeAnswered may_open path main list None answers =
    AreAnswersBy (λ name answer. answer ≡ Some (reply_for longest (file_in_memory path list name))) answers
MayBeAnswered may_open path main list (Some folders) answers = (folder : List ℕ) × IsFolderFor path main folder
    × AreAnswersBy (MayAnswer may_open folder (folders_in folders) (marks_in folders)) answers

-- ---- how it ends

-- How a command ends that words ask for, with these names of a main file and of a go.sum, if memory doesn't run out.
-- FILE `-` is standard input.
pub data CommandEnds (may_open : List ℕ → Opening → Type 0) (may_take : Opening → Type 0) (command : Command)
    (main : List ℕ) (sums : Option (List ℕ)) (proxy : Option ProxyList) (outcome : Outcome) : Type 0 where
  -- the main file can't be read
  no_main : IsUnread (FileGives may_open may_take) (main_input command main) outcome
      → CommandEnds may_open may_take command main sums proxy outcome
  -- the main file was read, and the go.sum can't be
  no_sums : (file : Option (Vec ℕ)) → IsInput (FileGives may_open may_take) (main_input command main) file
      → IsUnread (FileGives may_open may_take) (sums_input command sums) outcome
      → CommandEnds may_open may_take command main sums proxy outcome
  -- the list can't be read
  no_list : IsUnread (FileGives may_open may_take) (list_input command proxy) outcome
      → CommandEnds may_open may_take command main sums proxy outcome
  -- all were read, and the command runs over a store
  runs : (file table list : Option (Vec ℕ)) (answers : Answers)
      → IsInput (FileGives may_open may_take) (main_input command main) file
      → IsInput (FileGives may_open may_take) (sums_input command sums) table
      → IsInput (FileGives may_open may_take) (list_input command proxy) list
      → MayBeAnswered may_open (versions_path command) main list proxy answers
      → RunEnds command (given_of (bytes_read file) (option_map (λ content. content.items) table) answers) outcome
      → CommandEnds may_open may_take command main sums proxy outcome

-- the outcome for these words: their usage error, or the outcome of their command over the files that they name, or
-- over standard input
abbrev pub IsWordsOutcome : (List ℕ → Opening → Type 0) → (Opening → Type 0) → List (List ℕ) → Outcome → Type 0
IsWordsOutcome may_open may_take words outcome =
    ((fault : UsageFault) × IsFaultOf words fault × (outcome ≡ usage_outcome fault))
    ⊎ ((command : Command) × (places : Places) × AskFor words command places
    × CommandEnds may_open may_take command (string_bytes places.main)
    (option_map string_bytes places.sums) places.proxy outcome)

-- the outcome for these words after the program's own name, given the first that is not UTF-8, if there is one: its
-- usage error; otherwise the outcome for the words
abbrev pub IsOutcomeUnless : (List ℕ → Opening → Type 0) → (Opening → Type 0) → List (List ℕ) → Option (List ℕ)
    → Outcome → Type 0
IsOutcomeUnless may_open may_take words None outcome =
    IsWordsOutcome may_open may_take (codes "gomod" ∷ words) outcome
IsOutcomeUnless may_open may_take words (Some unreadable) outcome =
    outcome ≡ usage_error (unreadable_text unreadable)

-- the outcome of the program: that of the words after its own name, whatever that is. They are the given ones, if these
-- are known.
abbrev pub IsProgramOutcome : (List ℕ → Opening → Type 0) → (Opening → Type 0) → Option (List (List ℕ)) → Outcome
    → Type 0
IsProgramOutcome may_open may_take given outcome = (words : List (List ℕ)) × AreGiven given words
    × IsOutcomeUnless may_open may_take words (first_unreadable words) outcome

-- the exit status of an ending
abbrev pub ending_code : Ending → ℕ
ending_code (Run status) = code_of status
ending_code Usage = 2

-- the exit status: that of the program's outcome, or 3 if memory runs out or an output fails
abbrev pub IsProgramStatus : (List ℕ → Opening → Type 0) → (Opening → Type 0) → Option (List (List ℕ)) → ℕ → Type 0
IsProgramStatus may_open may_take given status =
    ((outcome : Outcome) × IsProgramOutcome may_open may_take given outcome × (status ≡ outcome.status))
    ⊎ (status ≡ 3)
