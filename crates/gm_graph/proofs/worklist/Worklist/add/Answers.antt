use Rattle.gm_graph.proofs.Adding.{adds_there}
use Rattle.gm_graph.proofs.Marking.{adds_marked, adds_with, too_many, worklist_with}
use Rattle.gm_graph.proofs.worklist.Worklist.add.Goals as goal

pub returns-then-has-clause-adds : goal.returns-then-has-clause-adds
returns-then-has-clause-adds c = λ modules is below.
    adds_there _ _ _ (adds_marked c.args.depth is below c.marks_of-marks.ensures c.if-has.ensures)

pub returns-then-opened-gt-MOST-clause-too_many : goal.returns-then-opened-gt-MOST-clause-too_many
returns-then-opened-gt-MOST-clause-too_many c = λ _ modules is below.
    too_many c.args.depth is below c.marks_of-marks.ensures c.opened_with-opened.result c.if-has.ensures c.opened_with-opened.ensures
    c.if-opened-gt-MOST.true

pub returns-clause-adds : goal.returns-clause-adds
returns-clause-adds c = λ modules is below. adds_with c.args.depth is below c.marks_of-marks.ensures c.in_ok-push_turn.ensures

pub returns-clause-worklist : goal.returns-clause-worklist
returns-clause-worklist c = λ modules is below.
    worklist_with c.args.depth is below c.marks_of-marks.ensures _ c.with.result
    (rw c.none.ensures at c.in_ok-put_at.ensures.put) (rw c.none.ensures at c.in_ok-put_at.ensures.others) c.with.ensures
    c.in_ok-push_turn.ensures c.if-has.ensures c.opened_with-opened.ensures
