use Rattle.std.proofs.Common.{◌<◌, arith, length}
use Rattle.std.proofs.lemmas.List.{take_all}
use Rattle.gm_graph_select.proofs.Moving.{one_again, one_moved}
use Rattle.gm_graph_select.proofs.sorting.move_distinct.Goals.{then-count-eq0, then-count-eq0-via-then-count-eq0, then-count-eq0-via-else-count-eq0+then-numbers-count, else-count-eq0+else-numbers-count}
use Rattle.gm_graph_select.proofs.sorting.move_distinct.Goals as goal

pub loop-place-preserved : goal.loop-place-preserved
loop-place-preserved c =
    let old = c.args.numbers.now in
    let at = c.loop-place in
    let inside : at.place < length old = omega (arith, at.invariant.size) in
    elim c.if-count-eq0.branch [
      | then-count-eq0 w ↦ rw (w.numbers-is, w.count-is) (one_moved at.invariant inside
          c.requires (λ some same. elim w.then-count-eq0.branch [
            | then-count-eq0-via-then-count-eq0 v ↦ absurd (omega arith)
            | then-count-eq0-via-else-count-eq0+then-numbers-count v ↦ absurd (v.if-numbers-count.true same)
          ]))
      | else-count-eq0+else-numbers-count w ↦ rw (w.numbers-is, w.count-is)
          (one_again at.invariant inside (omega arith) w.if-numbers-count.false)
    ]

pub returns-clause-members : goal.returns-clause-members
returns-clause-members c =
    let old = c.args.numbers.now in
    let at = c.loop-place in
    rw⁻¹ (take_all at.place old (omega (arith, at.invariant.size))) at.invariant.members
