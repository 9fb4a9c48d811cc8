-- Words of a `list` file while the listed versions and the greatest are found.
use Rattle.std.specs.Prelude.{ℕ, Bool, true, List, Option, Some, None, ◌↔◌, Contains}
use Rattle.std.specs.Ordering.{is_gt}
use Rattle.gm_version.specs.Version.{version_cmp}
use Rattle.gm_store.specs.Latest.{IsGreatest, NoneConsidered}
use Rattle.gm_store.specs.Listed.{IsListable}

-- the greatest of the considered versions, or none if there are none
abbrev pub IsGreatestOrNone : Bool → List (List ℕ) → Option (List ℕ) → Type 0
IsGreatestOrNone releases_only versions None = NoneConsidered releases_only versions
IsGreatestOrNone releases_only versions (Some version) = IsGreatest releases_only versions version

-- whether a version is greater than the greatest so far; it is if there is none so far
abbrev pub is_greater : List ℕ → Option (List ℕ) → Bool
is_greater version None = true
is_greater version (Some best) = is_gt (version_cmp version best)

-- `versions` has those of the words that may be listed, and no others
abbrev pub HoldsListable : List ℕ → List (List ℕ) → List (List ℕ) → Type 0
HoldsListable path words versions = (version : List ℕ)
    → Contains versions version ↔ (Contains words version × IsListable path version)
