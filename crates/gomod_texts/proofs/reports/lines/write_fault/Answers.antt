use Rattle.gomod_texts.proofs.Waiting.{took_given, took_part}
use Rattle.gomod_texts.proofs.reports.lines.write_fault.Goals as goal

pub returns-in_err-give_fault : goal.returns-in_err-give_fault
returns-in_err-give_fault g c =
    took_part _ _ _ c.give_fault.new.buffer _ c.in_err-give_fault.field-0.0 c.from_residual.result c.new-buffer.ensures
    c.from_residual.ensures.0 c.in_err-give_fault.ensures

pub returns : goal.returns
returns g c = took_given _ _ _ _ _ _ tt c.end.result c.new-buffer.ensures c.in_ok-give_fault.ensures c.end.ensures.ended
