use Rattle.std.proofs.Common.{Err}
use Rattle.gomod_texts.proofs.Waiting.{no_end}
use Rattle.gomod_texts.proofs.Takings.{took_piece}
use Rattle.gomod_texts.proofs.reports.buffer.LineBuffer.end.Goals as goal

pub returns-in_err-write_all-clause-ended : goal.returns-in_err-write_all-clause-ended
returns-in_err-write_all-clause-ended g c =
    let wrote = c.in_err-write_all.ensures in
    let fault = c.in_err-write_all.field-0.0 in
    no_end _ _ c.args.self.now _ fault c.from_residual.result (cc) c.from_residual.ensures.0
    (rw (c.as_bytes.ensures.value, c.as_str.ensures.value) at (took_piece _ _ _ (Err fault) wrote.whole wrote.part wrote.fits wrote.cause)) wrote.cause.later
