use Rattle.std.proofs.Common.{◌∙◌, ◌++◌, ◌∷◌, ℕ, Bor, List, ap, map, sym, take}
use Rattle.std.specs.List.{join_with_byte}
use Rattle.gomod_outcomes.proofs.Joining.{one_version_more}
use Rattle.gomod_outcomes.proofs.versions.versions_line.Goals as goal

pub loop-version-preserved : goal.loop-version-preserved
loop-version-preserved c =
    let path = c.args.path.now in
    let versions = c.args.versions.now in
    let at = c.loop-version.version-index in
    let item = c.version-item.result in
    let before = join_with_byte 32 (path ∷ map (λ version. version.now) (take at versions)) in
    c.in_ok-push_version.ensures ∙ ap (λ (line : List ℕ). line ++ 32 ∷ item.now) c.loop-version.invariant
    ∙ ap (λ (version : Bor (List ℕ)). before ++ 32 ∷ version.now) c.version-item.is ∙ sym (one_version_more path versions at item c.loop-version-test.true)
