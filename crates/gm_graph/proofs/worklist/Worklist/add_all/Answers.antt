use Rattle.std.proofs.Common.{Err, ap, arith, sym}
use Rattle.gm_graph_cache.specs.Lent.{lent_table}
use Rattle.gm_graph.proofs.Adding.{adds_none}
use Rattle.gm_graph.proofs.AddingAll.{adds_number, overflow_at}
use Rattle.gm_graph.proofs.worklist.Worklist.add_all.Goals as goal

pub loop-number-init : goal.loop-number-init
loop-number-init c = record {
  worklist = c.requires;
  adds = adds_none _ _;
}

pub loop-number-preserved : goal.loop-number-preserved
loop-number-preserved c =
    let modules = lent_table c.args.list in
    let held = c.loop-number.invariant in
    let added = c.in_ok-add.ensures in
    let below = c.numbers-number-items.ensures.below c.loop-number.number-index 0 (omega arith) in
    record {
      worklist = added.worklist modules held.worklist below;
      adds = adds_number modules _ c.loop-number.number-index c.args.depth (omega arith) held.adds (added.adds modules held.worklist below);
    }

pub returns-in_err-add-clause-too_many : goal.returns-in_err-add-clause-too_many
returns-in_err-add-clause-too_many c = λ e.
    let modules = lent_table c.args.list in
    let held = c.loop-number.invariant in
    let below = c.numbers-number-items.ensures.below c.loop-number.number-index 0 (omega arith) in
    let many = ap Err (sym (rw e at c.from_residual.ensures.1)) in
    rw⁻¹ c.numbers-number-items.ensures.modules
    (overflow_at modules c.numbers-number-items.result.now c.loop-number.number-index c.args.depth (omega arith) held.adds
    (c.in_err-add.ensures.too_many many modules held.worklist below))
