-- Runs of `versions` over a store, step by step.
use Rattle.std.proofs.Common.{◌≡◌, ◌⊎◌, ◌∙◌, ◌++◌, ◌∷◌, ℕ, Bool, true, false, List, [], Option, Some, None, Result, Ok, Err, ap, ap₂, inl, inr, refl, subst, sym}
use Rattle.gm_name.specs.Path.{is_fetchable}
use Rattle.gm_store_parts.specs.Asked.{IsLast, Name, Reply, answer_in, bytes, list_file, mod_file}
use Rattle.gm_store_parts.specs.States.{HasServed, StoreState}
use Rattle.gm_store.specs.Latest.{IsLatest}
use Rattle.gm_file.specs.Directives.{VersionInterval}
use Rattle.gm_file.specs.Fields.{Dependency}
use Rattle.gm_file.specs.Shown.{shown_of}
use Rattle.gm_graph_files.specs.declared.class.Class.{Class}
use Rattle.gm_graph_files.specs.Reading.{AreRetractedBy, IsFileReading}
use Rattle.gm_graph.specs.Run.{AskedInTurn, more, nothing}
use Rattle.gm_graph.proofs.Dues.{none_in_turn}
use Rattle.gomod_outcomes.specs.Private.Asking.{IsAnsweredAsk, IsRefusedAt, IsUnanswered}
use Rattle.gomod_texts.specs.Outcome.{OrNoMemory, Outcome, out_of_memory, refusal_outcome, text_outcome}
use Rattle.gomod_texts.specs.Reports.{fault_line}
use Rattle.gomod_outcomes.specs.Runs.{ComesTo}
use Rattle.gomod_outcomes.specs.Versions.{AreShown, HasListed, IsLatestListed, IsRefusedList, LatestSays, VersionsNeed, all_listed, bad_file, device, list_refusal, no_list, not_retracted, printed, versions_line}
use Rattle.gomod_outcomes.specs.Private.VersionsRuns.{AreVersionsAnswered, IsListAnswered, IsVersionsRun, broken_run, ended_run, memory_run}
use Rattle.gomod_words.specs.declared.usage.Command.TheVariants.{Versions}
use Rattle.gomod_outcomes.proofs.Answering.{file_answer, list_answer}
use Rattle.gomod_outcomes.proofs.CommandOutcomes.{broken_comes, still_comes}
use Rattle.gomod_outcomes.proofs.OneVersions.{refused_first, shown_listed, unrefused}

abbrev pub Pairs : Type 0
Pairs = List (Name × Reply)

-- all that is needed was answered, and these versions are to be shown
pub record AreToBeShown (path : List ℕ) (all : Bool) (old new : StoreState) (versions : List (List ℕ)) : Type 0 where
  pub in_turn : AskedInTurn (VersionsNeed path all) new.asked
  pub still : new.refused ≡ old.refused
  pub shown : AreShown path all (answer_in new.asked) versions

-- ---- what a run comes to

module _ (path : List ℕ) (all : Bool) (before after : Name → Option Reply → Type 0) (old new : StoreState) (outcome : Outcome) where
  -- that there is no list comes before all else
  told_first : ((other : Outcome) → IsRefusedList path (answer_in new.asked) other → outcome ≡ other)
      → (named : List ℕ) (every : Bool) (other : Outcome) → Versions path all ≡ Versions named every
      → IsRefusedList named (answer_in new.asked) other → outcome ≡ other
  told_first told named every other same =
      let path_same : path ≡ named = cc same in
      subst (λ p. IsRefusedList p (answer_in new.asked) other → outcome ≡ other) path_same (told other)

  pub versions_come : IsVersionsRun path all old new outcome → HasServed before after old new → (main : List ℕ) (sums : Option (List ℕ))
      → ComesTo (Versions path all) main sums before after old new outcome
  versions_come (ended_run still in_turn ends) served main sums =
      still_comes (Versions path all) main sums before after old new outcome in_turn served
      (told_first (λ other refused. refused_first path all (answer_in new.asked) outcome other ends refused)) still (inl ends)
  versions_come (memory_run still in_turn none memory) served main sums =
      still_comes (Versions path all) main sums before after old new outcome in_turn served
      (told_first (λ other refused. absurd (none other refused))) still (inr memory)
  versions_come (broken_run name grown in_turn needed unanswered none told) served main sums =
      broken_comes (Versions path all) main sums before after old new outcome in_turn served
      (told_first (λ other refused. absurd (none other refused)))
      name grown needed unanswered (device name needed unanswered refl told) told

-- ---- the list is asked for

-- a proxy can't have the module
pub unfetchable_run : {path : List ℕ} {all : Bool} {old : StoreState} {outcome : Outcome} → old.asked ≡ [] → is_fetchable path ≡ false
    → list_refusal path false None ≡ Some outcome → IsVersionsRun path all old old outcome
unfetchable_run {path} {all} {old} first isnt told =
    ended_run refl (none_in_turn _ _ first)
    (no_list (ap (λ b. list_refusal path b (answer_in old.asked (list_file path))) isnt ∙ told) refl)

module _ {path : List ℕ} {all : Bool} {old new : StoreState} {outcome : Outcome} (first : old.asked ≡ []) where
  -- it was not answered
  pub unlisted_run : is_fetchable path ≡ true → IsRefusedAt (list_file path) old new outcome ⊎ IsUnanswered old new outcome
      → IsVersionsRun path all old new outcome
  unlisted_run fetchable = by
    where
      unanswered : new.asked ≡ old.asked → answer_in new.asked (list_file path) ≡ None
      unanswered same = ap (λ a. answer_in a (list_file path)) (same ∙ first)

      none : new.asked ≡ old.asked → (other : Outcome) → ¬ (IsRefusedList path (answer_in new.asked) other)
      none same other refused = let e : None ≡ Some other = sym (ap₂ (list_refusal path) fetchable (unanswered same)) ∙ refused in cc e

      by : IsRefusedAt (list_file path) old new outcome ⊎ IsUnanswered old new outcome → IsVersionsRun path all old new outcome
      by (inl (told, same, grown)) =
          broken_run _ grown (none_in_turn _ _ (same ∙ first)) (inl (fetchable, refl))
          (unanswered same) (none same) told
      by (inr (memory, same, still)) = memory_run still (none_in_turn _ _ (same ∙ first)) (none same) memory

-- the last answer is that to the file that was asked for
pub last_answer : {asked name : Name} (old new : StoreState) (answer : Reply) → asked ≡ name → (reply : Reply) × IsAnsweredAsk asked old new reply
    → IsLast new.asked answer → IsAnsweredAsk name old new answer
last_answer {asked} {name} old new answer same (reply, heard) last =
    let is : (asked, reply) ≡ (name, answer) = ap₂ (λ (n : Name) (r : Reply). (n, r)) same (sym (last old.asked (asked, reply) heard.0)) in
    (heard.0 ∙ ap (λ pair. old.asked ++ pair ∷ []) is, heard.1)

pub list_alone : {path : List ℕ} {old new : StoreState} {reply : Reply} → old.asked ≡ [] → is_fetchable path ≡ true
    → IsAnsweredAsk (list_file path) old new reply → IsListAnswered path old new reply
list_alone {path} {old} {new} {reply} first fetchable heard =
    record { fetchable = fetchable; alone = heard.0 ∙ ap (λ a. a ++ (list_file path, reply) ∷ []) first; still = heard.1 }

-- it was asked for first
list_in_turn : {path : List ℕ} {all : Bool} {asked : Pairs} {reply : Reply} → is_fetchable path ≡ true
    → asked ≡ (list_file path, reply) ∷ [] → AskedInTurn (VersionsNeed path all) asked
list_in_turn {path} {all} {asked} {reply} fetchable is =
    subst (AskedInTurn (VersionsNeed path all)) (sym is) (more {pairs = []} {name = list_file path} _ nothing (inl (fetchable, refl)) refl)

list_told : {path : List ℕ} {asked : Pairs} {reply : Reply} (rest : Pairs) → asked ≡ (list_file path, reply) ∷ rest
    → answer_in asked (list_file path) ≡ Some reply
list_told {path} {asked} {reply} rest begins = ap (λ a. answer_in a (list_file path)) begins ∙ list_answer path _ rest

-- the answer is no list
pub no_list_run : {path : List ℕ} {all : Bool} {old new : StoreState} {outcome : Outcome} {reply : Reply} → IsListAnswered path old new reply
    → list_refusal path true (Some reply) ≡ Some outcome → IsVersionsRun path all old new outcome
no_list_run {path} is refused =
    ended_run is.still (list_in_turn is.fetchable is.alone) (no_list (ap₂ (list_refusal path) is.fetchable (list_told [] is.alone) ∙ refused) refl)

-- ---- the list was answered

pub file_unasked : {path : List ℕ} {old new : StoreState} {reply : Reply} → IsListAnswered path old new reply
    → (latest : List ℕ) → answer_in new.asked (mod_file path latest) ≡ None
file_unasked {path} is latest = ap (λ a. answer_in a (mod_file path latest)) is.alone

-- memory ran out before more was asked
pub listed_memory : {path : List ℕ} {all : Bool} {old new : StoreState} {list : List ℕ} {outcome : Outcome}
    → IsListAnswered path old new (bytes list) → outcome ≡ out_of_memory → IsVersionsRun path all old new outcome
listed_memory {path} {all} {old} {new} {list} is memory =
    memory_run is.still (list_in_turn is.fetchable is.alone)
    (λ other. unrefused path list (answer_in new.asked) other is.fetchable (list_told [] is.alone)) memory

module _ {path : List ℕ} {first mid : StoreState} {versions : List (List ℕ)} (is : AreVersionsAnswered path first mid versions) where
  listed_first : {asked : Pairs} (rest : Pairs) → asked ≡ (list_file path, bytes is.list) ∷ rest → HasListed path (answer_in asked) versions
  listed_first rest begins = record { fetchable = is.answered.fetchable; list = is.list; answered = list_told _ begins; listed = is.listed }

  -- all versions are asked for, or there are none
  pub all_shown : {all : Bool} → (all ≡ true) ⊎ (versions ≡ []) → AreToBeShown path all first mid (shown_of [] versions)
  all_shown {all} every = record {
    in_turn = list_in_turn is.answered.fetchable is.answered.alone;
    still = is.answered.still;
    shown = subst (AreShown path all (answer_in mid.asked)) (sym (none_hidden versions)) (all_listed (listed_first [] is.answered.alone) every);
  }
    where
      none_hidden : (versions : List (List ℕ)) → shown_of [] versions ≡ versions
      none_hidden [] = refl
      none_hidden (version ∷ versions) = ap (λ (vs : List (List ℕ)). version ∷ vs) (none_hidden versions)

-- ---- the go.mod of the latest version is asked for

module _ {path : List ℕ} {first mid : StoreState} (new : StoreState) {versions : List (List ℕ)} {latest : List ℕ}
    (is : AreVersionsAnswered path first mid versions) (greatest : IsLatest versions latest) where
  needed_after : {asked : Pairs} (rest : Pairs) → asked ≡ (list_file path, bytes is.list) ∷ rest → IsLatestListed path false (answer_in asked) versions latest
  needed_after rest begins = record { filtered = refl; listed = listed_first is rest begins; greatest = greatest }

  none : (rest : Pairs) → new.asked ≡ (list_file path, bytes is.list) ∷ rest → (other : Outcome) → ¬ (IsRefusedList path (answer_in new.asked) other)
  none rest begins other = unrefused _ _ (answer_in new.asked) _ is.answered.fetchable (list_told _ begins)

  -- it was not answered
  pub file_unanswered : {outcome : Outcome} → IsRefusedAt (mod_file path latest) mid new outcome ⊎ IsUnanswered mid new outcome
      → IsVersionsRun path false first new outcome
  file_unanswered (inl (told, same, grown)) =
      let alone = same ∙ is.answered.alone in
      broken_run (mod_file path latest) (grown ∙ ap (λ (names : List Name). names ++ mod_file path latest ∷ []) is.answered.still)
      (list_in_turn is.answered.fetchable alone) (inr (versions, latest, refl, needed_after [] alone))
      (ap (λ (a : Pairs). answer_in a (mod_file path latest)) alone) (none [] alone) told
  file_unanswered (inr (memory, same, still)) =
      let alone = same ∙ is.answered.alone in
      memory_run (still ∙ is.answered.still) (list_in_turn is.answered.fetchable alone) (none [] alone) memory

  -- it was
  module _ (reply : Reply) (heard : IsAnsweredAsk (mod_file path latest) mid new reply) where
    both : new.asked ≡ (list_file path, bytes is.list) ∷ (mod_file path latest, reply) ∷ []
    both = heard.0 ∙ ap (λ (a : Pairs). a ++ (mod_file path latest, reply) ∷ []) is.answered.alone

    in_turn : AskedInTurn (VersionsNeed path false) new.asked
    in_turn =
        subst (AskedInTurn (VersionsNeed path false)) (sym heard.0)
        (more {pairs = mid.asked} {name = mod_file path latest} reply (list_in_turn is.answered.fetchable is.answered.alone)
        (inr (versions, latest, refl, needed_after [] is.answered.alone)) (file_unasked is.answered latest))

    says_after : (reading : Result Dependency Class) → IsFileReading None (mod_file path latest) reply reading
        → LatestSays path false (answer_in new.asked) versions latest reply reading
    says_after reading says = record {
      chosen = needed_after ((mod_file path latest, reply) ∷ []) both;
      answered = ap (λ (a : Pairs). answer_in a (mod_file path latest)) both ∙ file_answer path latest (bytes is.list) reply [];
      says = says;
    }

    pub file_memory : {outcome : Outcome} → outcome ≡ out_of_memory → IsVersionsRun path false first new outcome
    file_memory memory = memory_run (heard.1 ∙ is.answered.still) in_turn (none ((mod_file path latest, reply) ∷ []) both) memory

    pub file_faulty : (class : Class) → IsFileReading None (mod_file path latest) reply (Err class)
        → IsVersionsRun path false first new (refusal_outcome (fault_line (path, latest) class))
    file_faulty class says =
        ended_run (heard.1 ∙ is.answered.still) in_turn (bad_file versions latest reply class (says_after (Err class) says) refl refl)

    pub file_valid : (file : Dependency) (intervals : List VersionInterval) → IsFileReading None (mod_file path latest) reply (Ok file)
        → AreRetractedBy reply intervals → AreToBeShown path false first new (shown_of intervals versions)
    file_valid file intervals says retracted = record {
      in_turn = in_turn;
      still = heard.1 ∙ is.answered.still;
      shown = not_retracted versions latest reply file intervals (says_after (Ok file) says) retracted refl;
    }

-- ---- the versions are to be shown

pub shown_run : {path : List ℕ} {all : Bool} {old new : StoreState} {shown : List (List ℕ)} {outcome : Outcome} → AreToBeShown path all old new shown
    → OrNoMemory (λ outcome. outcome ≡ text_outcome (versions_line path shown)) outcome → IsVersionsRun path all old new outcome
shown_run {path} {all} {old} {new} {shown} is (inl says) = ended_run is.still is.in_turn (printed _ is.shown refl says)
shown_run {path} {all} {old} {new} {shown} is (inr memory) =
    let (versions, listed) = shown_listed _ all (answer_in new.asked) shown is.shown in
    memory_run is.still is.in_turn (λ other. unrefused _ _ (answer_in new.asked) _ listed.fetchable listed.answered) memory
