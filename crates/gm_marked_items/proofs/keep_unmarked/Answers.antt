use Rattle.std.proofs.Common.{◌+◌, ◌∙◌, arith, false, refl, sym, true}
use Rattle.gm_marked_items.proofs.Kept.{keep-more}
use Rattle.gm_marked_items.proofs.keep_unmarked.Goals as goal
use Rattle.gm_marked_items.proofs.keep_unmarked.Goals.{then-not-goes, else-not-goes}
use Rattle.std.proofs.lemmas.List.{get_or_default}

pub loop-n-preserved : goal.loop-n-preserved
loop-n-preserved g c =
    let marks = c.args.marks.now in
    let n = c.loop-n.n in
    let inside = c.loop-n-test.true in
    let bound = c.loop-n.invariant.bound in
    elim c.if-not-goes.branch [
      | then-not-goes w ↦
          rw (w.list-is, w.count-is)
          (keep-more n (c.loop-n.count + 1) w.keep.new.list.items
          (omega (arith, inside)) c.requires (sym w.if-not-goes.true) w.keep.ensures.len (omega (arith, bound))
          w.keep.ensures.rest
          (λ e. absurd cc) (λ e. w.keep.ensures.front) c.loop-n.invariant)
      | else-not-goes w ↦
          rw (w.list-is, w.count-is)
          (keep-more n c.loop-n.count c.loop-n.list.items
          (omega (arith, inside)) c.requires (sym (get_or_default marks n true false (omega (arith, inside))
          ∙ w.if-not-goes.false)) refl (omega (arith, bound)) refl
          (λ e. refl) (λ e. absurd cc) c.loop-n.invariant)
    ]
