use Rattle.std.proofs.Common.{◌<◌, arith, get_or, length}
use Rattle.std.proofs.lemmas.List.{take_more}
use Rattle.gm_graph_select.proofs.Marks.{both_marked, none_more, one_marked}
use Rattle.gm_graph_select.proofs.marking.mark_each.Goals as goal

pub loop-number-init : goal.loop-number-init
loop-number-init c = none_more c.args.marks.now

pub bounds-marks-number : goal.bounds-marks-number
bounds-marks-number c =
    let below = c.requires c.loop-number.number-index 0 c.loop-number-test.true in
    omega (arith, below, c.loop-number.auto.marks)

pub loop-number-preserved : goal.loop-number-preserved
loop-number-preserved c =
    let at = c.loop-number in
    let numbers = c.args.numbers.now in
    let number = get_or numbers at.number-index 0 in
    let below = c.requires at.number-index 0 c.loop-number-test.true in
    let inside : number < length at.marks = omega (arith, below, at.auto.marks) in
    rw (take_more numbers at.number-index 0 c.loop-number-test.true)
    (both_marked at.invariant (one_marked at.marks number inside))
