use Rattle.std.proofs.Common.{arith}
use Rattle.gm_file_edit.specs.Private.Marks.{block_at, is_behind_gone}
use Rattle.gm_file_edit.proofs.Packs.{widen-line, widen-marked}
use Rattle.gm_file_edit.proofs.packing.widen.Goals as goal
use Rattle.gm_file_edit.proofs.packing.widen.Goals.{then-not-index, else-not-index}

pub loop-n-preserved : goal.loop-n-preserved
loop-n-preserved c =
    let lines = c.args.lines.now in
    let old = c.args.marks.now.items in
    let n = c.loop-n.n in
    let inside = c.loop-n-test.true in
    let len = c.len-n-end.ensures in
    elim c.if-not-index.branch [
      | then-not-index w ↦
          let after = w.after_line-goes.result in
          rw (w.marks-is, w.place-is)
          (widen-line old n (block_at after.1) (is_behind_gone after.1) after.0 c.requires (omega (arith, inside, len))
          c.index.ensures w.if-not-index.true w.as_slice.ensures.value w.after_line-goes.ensures c.loop-n.invariant)
      | else-not-index w ↦
          rw (w.marks-is, w.place-is)
          (widen-marked old n c.requires
          (omega (arith, inside, len)) c.index.ensures w.if-not-index.false c.loop-n.invariant)
    ]
