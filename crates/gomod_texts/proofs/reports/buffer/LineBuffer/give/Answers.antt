use Rattle.std.proofs.Common.{◌≡◌, rules}
use Rattle.gomod_texts.proofs.Waiting.{gives_after_end, gives_no_end}
use Rattle.gomod_texts.proofs.Takings.{took_piece}
use Rattle.gomod_texts.proofs.reports.buffer.LineBuffer.give.Goals as goal

pub returns-in_err-end : goal.returns-in_err-end
returns-in_err-end g c =
    let same : c.try_push_str.new.self.bytes ≡ c.args.self.now = search rules in
    gives_no_end _ _ _ _ c.end.new.self _ c.in_err-end.field-0.0 c.from_residual.result same c.from_residual.ensures.0
    c.in_err-end.ensures.ended

pub returns : goal.returns
returns g c =
    let wrote = c.write_all.ensures in
    let same : c.try_push_str.new.self.bytes ≡ c.args.self.now = search rules in
    gives_after_end _ _ _ _ _ _ _ tt c.write_all.result same c.in_ok-end.ensures.ended c.in_ok-end.ensures.empty
    (rw c.as_bytes.ensures.value at (took_piece _ _ _ c.write_all.result wrote.whole wrote.part wrote.fits wrote.cause)) wrote.cause.later
