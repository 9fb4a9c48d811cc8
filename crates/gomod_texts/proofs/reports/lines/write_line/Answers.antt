use Rattle.gomod_texts.proofs.Waiting.{took_given, took_part}
use Rattle.gomod_texts.proofs.reports.lines.write_line.Goals as goal

pub returns-in_err-give_line : goal.returns-in_err-give_line
returns-in_err-give_line g c =
    took_part _ _ _ c.give_line.new.self _ c.in_err-give_line.field-0.0 c.from_residual.result c.new-buffer.ensures
    c.from_residual.ensures.0 c.in_err-give_line.ensures

pub returns : goal.returns
returns g c = took_given _ _ _ _ _ _ tt c.end.result c.new-buffer.ensures c.in_ok-give_line.ensures c.end.ensures.ended
