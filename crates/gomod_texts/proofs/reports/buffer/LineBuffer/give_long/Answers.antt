use Rattle.std.proofs.Common.{◌++◌, [], Ok, codes, drop, refl, suc, take, take_all}
use Rattle.std.specs.List.{flat_map}
use Rattle.gomod_texts.proofs.Waiting.{around, gives_more, no_more, one_more}
use Rattle.gomod_texts.proofs.reports.buffer.LineBuffer.give_long.Goals as goal

pub returns-in_err-give : goal.returns-in_err-give
returns-in_err-give g c =
    let pieces = c.args.pieces.now in
    let at = c.pieces.piece-index in
    no_more _ _ _ c.args.self.now c.pieces.self c.give.new.self (flat_map (λ piece. piece.now) (take at pieces)) _
    (flat_map (λ piece. piece.now) (drop (suc at) pieces) ++ codes "\n") _
    c.in_err-give.field-0.0 c.from_residual.result c.from_residual.ensures.0
    (around (λ piece. piece.now) pieces at (record { ref_ptr = (0, 0); now = [] }) (codes "\n") c.pieces-test.true)
    c.pieces.invariant c.in_err-give.ensures

pub pieces-preserved : goal.pieces-preserved
pieces-preserved g c =
    gives_more _ _ _ c.args.self.now c.pieces.self c.give.new.self _ _ _ (Ok tt)
    (one_more (λ piece. piece.now) c.args.pieces.now c.pieces.piece-index (record { ref_ptr = (0, 0); now = [] }) c.pieces-test.true)
    c.pieces.invariant c.in_ok-give.ensures

pub returns : goal.returns
returns g c =
    gives_more _ _ _ c.args.self.now c.pieces.self c.give-2.new.self _ (codes "\n") _ c.give-2.result refl
    (rw (take_all c.pieces.piece-index c.args.pieces.now c.pieces-test.false) at c.pieces.invariant) c.give-2.ensures
