-- A copy from crates/gomod_outcomes/specs/Versions.antt, which tools/check/headline.py writes.
use Rattle.std.specs.Prelude.{◌≡◌, ◌⊎◌, ◌++◌, ◌∷◌, ℕ, Bool, List, [], Option, Some, None, Result, Ok, Err, codes, true, false}
use Rattle.std.specs.List.{join_with_byte}
use Rattle.page_commands.specs.Path.{is_fetchable}
use Rattle.page_commands.specs.Asked.{Name, Reply, absent, bytes, list_file, mod_file, too_long}
use Rattle.page_commands.specs.Latest.{IsLatest}
use Rattle.page_commands.specs.Listed.{AreListed}
use Rattle.page_commands.specs.Directives.{VersionInterval}
use Rattle.page_commands.specs.Fields.{Dependency}
use Rattle.page_commands.specs.Shown.{shown_of}
use Rattle.page_commands.specs.Types.Class.{Class}
use Rattle.page_commands.specs.Reading.{AreRetractedBy, IsFileReading}
use Rattle.page_commands.specs.Reports.{device_line, fault_line, list_line}
use Rattle.page_commands.specs.Outcome.{Outcome, failure_outcome, text_outcome, refusal_outcome}
use Rattle.page_commands.specs.Needs.{AnswersByName}

-- the path and the versions, separated by single spaces
abbrev pub versions_line : List ℕ → List (List ℕ) → List ℕ
versions_line path versions = join_with_byte 32 (path ∷ versions) ++ codes "\n"

-- The report that there is no list to read, given whether a proxy can have the module and the answer for the list, if
-- there is one: a proxy can't have the module, or the store has no list, or one that is too long.
abbrev pub list_refusal : List ℕ → Bool → Option Reply → Option Outcome
list_refusal path false answer = Some (refusal_outcome (list_line path (codes "NotFetchable")))
list_refusal path true (Some absent) = Some (refusal_outcome (list_line path (codes "Missing")))
list_refusal path true (Some too_long) = Some (refusal_outcome (list_line path (codes "TooLong")))
list_refusal path true _ = None

-- there is no list to read, which is reported
abbrev pub IsRefusedList : List ℕ → AnswersByName → Outcome → Type 0
IsRefusedList path answers outcome = list_refusal path (is_fetchable path) (answers (list_file path)) ≡ Some outcome

-- a proxy can have the module, and the store's list names these versions
pub record HasListed (path : List ℕ) (answers : AnswersByName) (versions : List (List ℕ)) : Type 0 where
  pub fetchable : is_fetchable path ≡ true
  pub list : List ℕ
  pub answered : answers (list_file path) ≡ Some (bytes list)
  pub listed : AreListed path list versions

-- not all versions are asked for, and this is the latest of those that are listed
pub record IsLatestListed (path : List ℕ) (all : Bool) (answers : AnswersByName) (versions : List (List ℕ))
    (latest : List ℕ) : Type 0 where
  pub filtered : all ≡ false
  pub listed : HasListed path answers versions
  pub greatest : IsLatest versions latest

-- the answer for its go.mod, and what that says or what is wrong with it. No hash is checked.
pub record LatestSays (path : List ℕ) (all : Bool) (answers : AnswersByName) (versions : List (List ℕ))
    (latest : List ℕ) (reply : Reply) (reading : Result Dependency Class) : Type 0 where
  pub chosen : IsLatestListed path all answers versions latest
  pub answered : answers (mod_file path latest) ≡ Some reply
  pub says : IsFileReading None (mod_file path latest) reply reading

-- the files that `versions PATH` needs, given the answers so far: the list, then the go.mod of the latest version,
-- unless all versions are asked for or there are none
abbrev pub VersionsNeed : List ℕ → Bool → AnswersByName → Name → Type 0
VersionsNeed path all answers name = ((is_fetchable path ≡ true) × (name ≡ list_file path))
    ⊎ ((versions : List (List ℕ)) × (latest : List ℕ) × (name ≡ mod_file path latest)
    × IsLatestListed path all answers versions latest)

-- the versions that are shown
pub data AreShown (path : List ℕ) (all : Bool) (answers : AnswersByName) (shown : List (List ℕ)) : Type 0 where
  -- all that are listed, since all are asked for, or there are none
  all_listed : HasListed path answers shown → (all ≡ true) ⊎ (shown ≡ []) → AreShown path all answers shown
  -- those that the go.mod of the latest one doesn't retract
  not_retracted : (versions : List (List ℕ)) (latest : List ℕ) (reply : Reply) (file : Dependency)
      (intervals : List VersionInterval) → LatestSays path all answers versions latest reply (Ok file)
      → AreRetractedBy reply intervals → shown ≡ shown_of intervals versions → AreShown path all answers shown

-- How `versions PATH` ends, if memory doesn't run out, given the answers of the store and the names on which its device
-- failed.
pub data VersionsEnds (path : List ℕ) (all : Bool) (answers : AnswersByName) (failed : List Name) (outcome : Outcome)
    : Type 0 where
  -- the store's device failed at a file that is needed
  device : (name : Name) → VersionsNeed path all answers name → answers name ≡ None → failed ≡ name ∷ []
      → outcome ≡ failure_outcome (device_line name) → VersionsEnds path all answers failed outcome
  -- there is no list to read
  no_list : IsRefusedList path answers outcome → failed ≡ [] → VersionsEnds path all answers failed outcome
  -- the go.mod of the latest version has a fault, which is reported
  bad_file : (versions : List (List ℕ)) (latest : List ℕ) (reply : Reply) (class : Class)
      → LatestSays path all answers versions latest reply (Err class) → failed ≡ []
      → outcome ≡ refusal_outcome (fault_line (path, latest) class) → VersionsEnds path all answers failed outcome
  -- the versions are printed
  printed : (shown : List (List ℕ)) → AreShown path all answers shown → failed ≡ []
      → outcome ≡ text_outcome (versions_line path shown) → VersionsEnds path all answers failed outcome
