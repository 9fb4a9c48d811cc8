use Rattle.std.proofs.Common.{ap}
use Rattle.gomod_texts.specs.Outcome.{code_of}
use Rattle.gomod_run.proofs.WrittenTexts.{report_cut, report_written}
use Rattle.gomod_run.proofs.writing.write_report.Goals as goal

pub returns-in-Ok : goal.returns-in-Ok
returns-in-Ok g c = λ out. report_written out c.args.told.now (ap code_of c.status.ensures) c.in-Ok.ensures

pub returns-in-Err : goal.returns-in-Err
returns-in-Err g c = λ out. report_cut out c.args.told.now c.in-Err.ensures
