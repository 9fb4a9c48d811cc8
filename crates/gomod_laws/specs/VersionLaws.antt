-- Laws of `versions` and of its line, over the answers of a store: Go Modules Reference, GOPROXY protocol and retract
-- directive.
use Rattle.std.specs.Prelude.{◌≡◌, ◌⊎◌, ℕ, List, [], Option, None, Some, Ok, Contains, false, true}
use Rattle.gm_version.specs.Version.{IsVersion}
use Rattle.gm_file.specs.Directives.{VersionInterval}
use Rattle.gm_file.specs.Fields.{Dependency}
use Rattle.gm_file.specs.Shown.{shown_of}
use Rattle.gm_store_parts.specs.Asked.{Name, Reply, answer_in, bytes, list_file, mod_file}
use Rattle.gm_store.specs.Latest.{IsLatest}
use Rattle.gm_store.specs.Listed.{AreListed}
use Rattle.gm_graph_files.specs.Reading.{AreRetractedBy, IsFileReading}
use Rattle.gomod_texts.specs.Outcome.{Outcome, text_outcome}
use Rattle.gomod_texts.specs.QueryLaws.{AnswerAlike}
use Rattle.gomod_words.specs.declared.usage.Command.TheVariants.{Versions}
use Rattle.gomod_outcomes.specs.Versions.{versions_line}
use Rattle.gomod_laws.specs.Runs.{HasOutcome, HasPrinted}

-- The store answered for the list file of the path, and these are the versions that the list names: those that are
-- canonical, fit the path and are no pseudo-versions, each once, in ascending order.
pub record ListsVersions (asked : List (Name × Reply)) (path : List ℕ) (versions : List (List ℕ)) : Type 0 where
  pub list : List ℕ
  pub answered : answer_in asked (list_file path) ≡ Some (bytes list)
  pub are : AreListed path list versions

-- The line that is printed says which versions they are.
abbrev pub LineSaysVersions : Type 0
LineSaysVersions = (path : List ℕ) (versions others : List (List ℕ))
    → ((version : List ℕ) → Contains versions version → IsVersion version)
    → ((version : List ℕ) → Contains others version → IsVersion version)
    → versions_line path versions ≡ versions_line path others → versions ≡ others

-- The store answered with a go.mod of the version that can be read, and that retracts these intervals.
abbrev pub Retracts : List (Name × Reply) → List ℕ → List ℕ → List VersionInterval → Type 0
Retracts asked path version intervals =
    (reply : Reply) × (file : Dependency)
    × (answer_in asked (mod_file path version) ≡ Some reply)
    × IsFileReading None (mod_file path version) reply (Ok file)
    × AreRetractedBy reply intervals

-- Of these versions, the shown ones are those that no retraction of the latest one's file contains, in the same
-- order. The latest is the greatest release, or the greatest version if there is no release.
abbrev pub AreUnretracted : List (Name × Reply) → List ℕ → List (List ℕ) → List (List ℕ) → Type 0
AreUnretracted asked path versions shown =
    ((versions ≡ []) × (shown ≡ []))
    ⊎ ((latest : List ℕ) × (intervals : List VersionInterval)
    × IsLatest versions latest
    × Retracts asked path latest intervals
    × (shown ≡ shown_of intervals versions))

-- The other outcome shows all versions that the store's list names. The one shows those of them that the latest one's
-- go.mod does not retract.
pub record LeavesOutRetracted (asked : List (Name × Reply)) (path : List ℕ) (one other : Outcome) : Type 0 where
  pub versions : List (List ℕ)
  pub shown : List (List ℕ)
  pub listed : ListsVersions asked path versions
  pub unretracted : AreUnretracted asked path versions shown
  pub one_prints : one ≡ text_outcome (versions_line path shown)
  pub other_prints : other ≡ text_outcome (versions_line path versions)

-- If `versions` prints without `--retracted`, it prints with it, over a store that answers no file differently. With it
-- it prints all listed versions, and without it those of them that are not retracted.
abbrev pub RetractedAreLeftOut : Type 0
RetractedAreLeftOut = (path main : List ℕ) (sums : Option (List ℕ)) (asked again : List (Name × Reply))
    (one other : Outcome)
    → HasOutcome (Versions path false) main sums asked one → HasPrinted one
    → HasOutcome (Versions path true) main sums again other → AnswerAlike asked again
    → LeavesOutRetracted asked path one other
