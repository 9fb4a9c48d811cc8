use Rattle.std.proofs.Common.{◌≡◌, ◌≤◌, length}
use Rattle.std.specs.Cmp.Lexicographic.{slice_cmp}
use Rattle.semver.specs.Order.{pre_part_cmp, parts}
use Rattle.gm_version.proofs.pre_release.compare_by_identifiers.Given as goal

abbrev pub invariant-identifiers : goal.invariant-identifiers
invariant-identifiers l = record {
  same : slice_cmp pre_part_cmp (parts l.fn.one) (parts l.fn.other) ≡ slice_cmp pre_part_cmp (parts l.ours) (parts l.theirs);
  ours : length l.ours ≤ length l.fn.one;
  theirs : length l.theirs ≤ length l.fn.other;
}

abbrev pub decreases-identifiers : goal.decreases-identifiers
decreases-identifiers l = length l.ours
