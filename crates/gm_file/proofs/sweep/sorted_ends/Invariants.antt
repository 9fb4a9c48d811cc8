use Rattle.std.proofs.Common.{◌≡◌, take, map}
use Rattle.gm_file.specs.Views.{interval_views}
use Rattle.gm_file.specs.Private.Swept.{ends_view}
use Rattle.gm_file.proofs.sweep.sorted_ends.Given as goal

-- these are the ends of the intervals so far
abbrev pub invariant-loop-interval : goal.invariant-loop-interval
invariant-loop-interval l = map ends_view l.ends.items ≡ interval_views (take l.interval-index l.intervals)
