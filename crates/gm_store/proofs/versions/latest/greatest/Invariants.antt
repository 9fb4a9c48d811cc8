use Rattle.std.proofs.Common.{take, option_map}
use Rattle.gm_store.specs.Private.Versions.{IsGreatestOrNone}
use Rattle.gm_store.proofs.versions.latest.greatest.Given as goal

-- `best` is the greatest of the considered versions so far
abbrev pub invariant-loop-version : goal.invariant-loop-version
invariant-loop-version l = IsGreatestOrNone l.releases_only (take l.version-index l.versions) (option_map (λ best. best.now) l.best)
