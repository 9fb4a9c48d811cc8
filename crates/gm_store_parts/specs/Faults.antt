-- Counts of a device's failures. They stop at the greatest `u64`.
use Rattle.std.specs.Prelude.{◌≡◌, ◌-◌, ◌^◌, ◌<◌, ◌⊎◌, ℕ}

-- between these counts a failure was counted, or the count was at its maximum already and couldn't rise
abbrev pub HasCountedFailure : ℕ → ℕ → Type 0
HasCountedFailure before after = (before < after) ⊎ (before ≡ 2 ^ 64 - 1)
