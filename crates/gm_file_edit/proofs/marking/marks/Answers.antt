use Rattle.std.proofs.Common.{◌≡◌, ◌∙◌, None, arith, sym, take}
use Rattle.gm_file.specs.Directives.{block_after_lines}
use Rattle.gm_file_edit.specs.About.{about}
use Rattle.gm_file_edit.specs.Holding.{directive_at, passes}
use Rattle.gm_file_edit.specs.Private.Marks.{line_at}
use Rattle.gm_file_edit.specs.Sound.{edit_of}
use Rattle.gm_file_edit.proofs.Marks.{passed-at, scan-end, scan-more, told-at}
use Rattle.gm_file_edit.proofs.marking.marks.Goals as goal
use Rattle.gm_file_edit.proofs.marking.marks.Goals.{then-agrees+in_ok-mark, else-agrees}

pub loop-n-init : goal.loop-n-init
loop-n-init c = c.in_ok-marks.ensures.items

pub loop-n-preserved : goal.loop-n-preserved
loop-n-preserved c =
    let edit = edit_of c.args.change.now in
    let lines = c.args.lines.now in
    let n = c.loop-n.n in
    let inside = c.loop-n-test.true in
    let len = c.len-n-end.ensures in
    let marked : c.if-agrees.mark ≡ passes (about edit) (directive_at (block_after_lines None (take n lines)) (line_at lines n)) = elim c.if-agrees.branch [
      | then-agrees+in_ok-mark w ↦ w.mark-is
          ∙ told-at edit lines n c.key-key.ensures c.target_of-target.ensures c.key_with-wanted.ensures c.takes_any_version-any_second.ensures
          (sym c.agrees.ensures ∙ w.if-agrees.true) w.is_inside.ensures w.line.ensures.line w.in_ok-mark.ensures
      | else-agrees w ↦ w.mark-is
          ∙ sym (passed-at edit lines n c.key-key.ensures c.target_of-target.ensures c.key_with-wanted.ensures c.takes_any_version-any_second.ensures
          (sym c.agrees.ensures ∙ w.if-agrees.false))
    ] in
    scan-more edit lines n (omega (arith, inside, len)) marked c.in_ok-push.ensures.items c.loop-n.invariant

pub returns : goal.returns
returns c =
    let over = c.loop-n-test.false in
    let len = c.len-n-end.ensures in
    scan-end (edit_of c.args.change.now) c.args.lines.now c.loop-n.n (omega (arith, over, len)) c.loop-n.invariant
