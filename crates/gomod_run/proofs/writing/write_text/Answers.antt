use Rattle.gomod_run.proofs.WrittenTexts.{text_cut, text_written}
use Rattle.gomod_run.proofs.writing.write_text.Goals as goal

pub returns-in-Ok : goal.returns-in-Ok
returns-in-Ok g c = λ report. text_written report c.in-Ok.ensures

pub returns-in-Err : goal.returns-in-Err
returns-in-Err g c = λ report. text_cut report c.in-Err.ensures
