use Rattle.std.proofs.Common.{◌≡◌, ◌∷◌, map, string_bytes, take}
use Rattle.std.specs.List.{join_with_byte}
use Rattle.gomod_outcomes.proofs.versions.versions_line.Given as goal

-- the path and the versions so far
abbrev pub invariant-loop-version : goal.invariant-loop-version
invariant-loop-version l = string_bytes l.line ≡ join_with_byte 32 (l.path ∷ map (λ version. version.now) (take l.version-index l.versions))
