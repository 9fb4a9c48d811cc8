-- The state of a sweep over ascending versions and over intervals that are sorted by their low ends.
use Rattle.std.specs.Prelude.{◌≡◌, ◌≤◌, ◌<◌, ℕ, Bool, true, false, List, [], ◌∷◌, length, take, slice_index_or, Option, Some, None}
use Rattle.std.specs.List.{AllByRecursion, list_all, list_any}
use Rattle.gm_file.specs.Directives.{VersionInterval}
use Rattle.gm_file.specs.Shown.{is_retracted, is_at_most}
use Rattle.gm_file.specs.declared.sweep.Ends.{Ends}

-- the ends of an interval as texts
abbrev pub ends_view : Ends → VersionInterval
ends_view ends = (ends.low.now, ends.high.now)

-- each low end precedes those after it, or has the same precedence
abbrev pub Ascend : List VersionInterval → Type 0
Ascend [] = Unit {0}
Ascend (first ∷ others) = AllByRecursion (λ other. is_at_most first.0 other.0 ≡ true) others × Ascend others

-- the low ends ascend, and the same versions are contained in some interval
pub record AreSorted (sorted intervals : List VersionInterval) : Type 0 where
  pub ascend : Ascend sorted
  pub same : (version : List ℕ) → is_retracted sorted version ≡ is_retracted intervals version

-- the version is at most the highest end so far, which is None if there is no interval yet
abbrev pub is_reached : List ℕ → Option (List ℕ) → Bool
is_reached version None = false
is_reached version (Some reach) = is_at_most version reach

-- the first `next` intervals begin at the version or before, and `reach` is the highest of their high ends
pub record AreSwept (intervals : List VersionInterval) (version : List ℕ) (next : ℕ)
    (reach : Option (List ℕ)) : Type 0 where
  pub within : next ≤ length intervals
  pub begun : list_all (λ ends. is_at_most ends.0 version) (take next intervals) ≡ true
  pub reached : (other : List ℕ)
      → is_reached other reach ≡ list_any (λ ends. is_at_most other ends.1) (take next intervals)

-- and the next interval, if any, begins after the version
pub record AreAllSwept (intervals : List VersionInterval) (version : List ℕ) (next : ℕ)
    (reach : Option (List ℕ)) : Type 0 where
  pub swept : AreSwept intervals version next reach
  pub ended : (ends : VersionInterval) → next < length intervals
      → is_at_most (slice_index_or intervals next ends).0 version ≡ false
