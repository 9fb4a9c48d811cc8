use Rattle.std.proofs.Common.{map}
use Rattle.gm_name.specs.Lines.{first_word}
use Rattle.gm_store.specs.Private.Versions.{HoldsListable}
use Rattle.gm_store.proofs.versions.list.versions_of.Given as goal

-- `versions` has the versions that the lines so far name
abbrev pub invariant-loop-line : goal.invariant-loop-line
invariant-loop-line l = HoldsListable l.path (map first_word (map (λ line. line.now) l.yielded)) l.versions.items
