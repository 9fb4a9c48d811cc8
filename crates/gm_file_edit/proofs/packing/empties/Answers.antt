use Rattle.std.proofs.Common.{arith, sym, ◌∙◌}
use Rattle.gm_file_edit.proofs.Packs.{look-blank, look-marked}
use Rattle.gm_file_edit.proofs.packing.empties.Goals as goal
use Rattle.gm_file_edit.proofs.packing.empties.Goals.{then-marks-n, else-marks-n+else-not-is_blank_at}

pub loop-n-preserved : goal.loop-n-preserved
loop-n-preserved c =
    let marks = c.args.marks.now in
    let lines = c.args.lines.now in
    let n = c.loop-n.n in
    let inside = c.loop-n-test.true in
    let len = c.len-n-end.ensures in
    elim c.if-marks-n.branch [
      | then-marks-n w ↦ rw w.lost-is (sym (look-marked marks lines n c.loop-n.lost c.requires
          (omega (arith, inside, len)) w.if-marks-n.true) ∙ c.loop-n.invariant)
      | else-marks-n+else-not-is_blank_at w ↦
          rw w.lost-is
          (sym (look-blank marks lines n c.loop-n.lost c.requires (omega (arith, inside, len)) w.if-marks-n.false
          (sym w.is_blank_at.ensures ∙ w.if-not-is_blank_at.false)) ∙ c.loop-n.invariant)
    ]
