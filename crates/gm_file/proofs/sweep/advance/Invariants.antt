use Rattle.std.proofs.Common.{length, ◌-◌, option_map, map}
use Rattle.gm_file.specs.Private.Swept.{AreSwept, ends_view}
use Rattle.gm_file.proofs.sweep.advance.Given as goal

-- the intervals so far begin at the version or before
abbrev pub invariant-ends : goal.invariant-ends
invariant-ends l = AreSwept (map ends_view l.ends) l.version l.next (option_map (λ reach. reach.now) l.reach)

abbrev pub decreases-ends : goal.decreases-ends
decreases-ends l = length l.ends - l.next
