use Rattle.std.proofs.Common.{arith, length-drop}
use Rattle.gm_store_parts.proofs.Appending.{appends_more, front_more, room_more}
use Rattle.gm_store_parts.proofs.sinks.write_all.Goals as goal

pub pieces-preserved : goal.pieces-preserved
pieces-preserved g c =
    let takes = c.in_ok-count.ensures.takes in
    let cause = c.in_ok-count.ensures.cause in
    let before = c.pieces.invariant in
    record {
      place = omega (arith, takes.within, length-drop c.pieces.at c.args.piece.now, before.place);
      appended = appends_more _ _ _ _ _ _ (front_more c.args.piece.now c.pieces.at c.in_ok-count.count) before.appended takes.bytes;
      left = room_more _ _ _ c.pieces.at c.in_ok-count.count _ before.left c.in_ok-count.ensures.fits;
      later = omega (arith, before.later, cause.later);
    }
