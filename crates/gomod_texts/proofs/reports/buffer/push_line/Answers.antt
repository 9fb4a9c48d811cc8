use Rattle.std.proofs.Common.{[], codes}
use Rattle.gomod_texts.proofs.Waiting.{appended}
use Rattle.gomod_texts.proofs.reports.buffer.push_line.Goals as goal

pub pieces-preserved : goal.pieces-preserved
pieces-preserved c =
    let fits = c.try_push_str-fits in
    appended (λ piece. piece.now) c.args.pieces.now c.pieces.piece-index (record { ref_ptr = (0, 0); now = [] }) c.args.text.now.bytes (codes "\n")
    c.pieces.text.bytes fits.new.self.bytes 16384 fits.result c.pieces-test.true c.requires c.pieces.invariant
    fits.ensures.variant fits.ensures.ok
