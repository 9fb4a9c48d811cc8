use Rattle.std.proofs.Common.{◌+◌, ℕ, Bor, List, Option, subst, sym, take, option_map}
use Rattle.gm_store.specs.Private.Versions.{IsGreatestOrNone}
use Rattle.gm_store.proofs.Greatest.{step_more, step_same}
use Rattle.std.proofs.lemmas.List.{take_all}
use Rattle.gm_store.proofs.versions.latest.greatest.Goals as goal
use Rattle.gm_store.proofs.versions.latest.greatest.Goals.{then-is_better, else-is_better}

pub loop-version-preserved : goal.loop-version-preserved
loop-version-preserved c =
    let only = c.args.releases_only in
    let xs = c.args.versions.now in
    let kept = λ (best : Option (Bor (List ℕ))). IsGreatestOrNone only (take (c.loop-version.version-index + 1) xs) (option_map (λ best. best.now) best) in
    elim c.if-is_better.branch [
      | then-is_better w ↦ subst kept (sym w.best-is)
          (step_more only xs c.loop-version.version-index c.version-item.result _ c.is_better.result
          c.loop-version-test.true c.version-item.is c.is_better.ensures w.if-is_better.true
          c.loop-version.invariant)
      | else-is_better w ↦ subst kept (sym w.best-is)
          (step_same only xs c.loop-version.version-index c.version-item.result _ c.is_better.result
          c.loop-version-test.true c.version-item.is c.is_better.ensures w.if-is_better.false
          c.loop-version.invariant)
    ]

pub returns : goal.returns
returns c = subst (λ xs. IsGreatestOrNone c.args.releases_only xs (option_map (λ best. best.now) c.loop-version.best))
    (take_all _ _ c.loop-version-test.false) c.loop-version.invariant
