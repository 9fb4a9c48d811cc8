use Rattle.std.proofs.Common.{◌∙◌, ◌++◌, ◌∷◌, [], Bool, List, ap, append_assoc, cond, not, sym}
use Rattle.gm_name.specs.ModuleVersion.{ModuleVersion}
use Rattle.gm_file.specs.Main.{without_excluded}
use Rattle.gm_graph_files.proofs.summary.copy_kept.Goals as goal

-- an excluded module is left out
pub loop-x-preserved : goal.loop-x-preserved
loop-x-preserved c =
    let main = c.args.main.now in
    let kept = c.loop-x.kept.items in
    let others = without_excluded main c.next.new.self in
    ap (λ (xs : List ModuleVersion). kept ++ xs)
    (sym (ap (λ (excluded : Bool). cond (not excluded) (c.in-Some.x.now ∷ others) others) (sym c.excluded.ensures ∙ c.if-not-excluded.false)))
    ∙ ap (λ (xs : List ModuleVersion). kept ++ without_excluded main xs) (sym c.in-Some.ensures.steps)
    ∙ c.loop-x.invariant

-- another is kept
pub loop-x-preserved-in_ok-push : goal.loop-x-preserved-in_ok-push
loop-x-preserved-in_ok-push c =
    let main = c.args.main.now in
    let kept = c.loop-x.kept.items in
    let others = without_excluded main c.next.new.self in
    ap (◌++ others) (c.in_ok-push.ensures.items ∙ ap (λ (x : ModuleVersion). kept ++ x ∷ []) c.in_ok-copy.ensures)
    ∙ append_assoc kept (c.in-Some.x.now ∷ []) others
    ∙ ap (λ (xs : List ModuleVersion). kept ++ xs)
    (sym (ap (λ (excluded : Bool). cond (not excluded) (c.in-Some.x.now ∷ others) others) (sym c.excluded.ensures ∙ c.if-not-excluded.true)))
    ∙ ap (λ (xs : List ModuleVersion). kept ++ without_excluded main xs) (sym c.in-Some.ensures.steps)
    ∙ c.loop-x.invariant
