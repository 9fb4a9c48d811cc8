-- Laws about the GOPROXY fallback: a request has exactly one outcome.
use Rattle.std.specs.Prelude.{◌≡◌, ◌<◌, ℕ, List, length, Option, Some, slice_get}
use Rattle.gm_store_parts.specs.declared.fallback.proxy_list.Mark.{Mark}
use Rattle.gm_store_parts.specs.Asked.{Name, Reply}
use Rattle.gm_store_parts.specs.Steps.{MayStop, Seen, StopsAt}
use Rattle.gm_store.specs.declared.folders.in_memory.FoldersInMemory.{FoldersInMemory}
use Rattle.gm_store.specs.FolderLookups.{lookup_results}

-- for given results and marks there is at most one outcome and one count of failures
abbrev pub OutcomeIsUnique : Type 0
OutcomeIsUnique = (looks : List Seen) (marks : List Mark) (one other : Option Reply) (failures others : ℕ)
    → StopsAt looks marks one failures → StopsAt looks marks other others
    → (one ≡ other) × (failures ≡ others)

-- there is an outcome if a folder follows each mark
abbrev pub OutcomeExists : Type 0
OutcomeExists = (looks : List Seen) (marks : List Mark) → length marks < length looks
    → (outcome : Option Reply) × (failures : ℕ) × StopsAt looks marks outcome failures

-- over folders in memory each possible outcome is that of the results in all folders
abbrev pub OutcomeFollowsContents : Type 0
OutcomeFollowsContents = (folders : FoldersInMemory) (name : Name) (marks : List Mark)
    (outcome : Option Reply) (failures : ℕ)
    → MayStop (λ k seen. slice_get (lookup_results folders name) k ≡ Some seen) marks outcome failures
    → StopsAt (lookup_results folders name) marks outcome failures
