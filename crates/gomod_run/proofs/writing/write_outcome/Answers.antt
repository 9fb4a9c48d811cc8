use Rattle.gomod_run.proofs.writing.write_outcome.Goals as goal

pub returns-in-Ok : goal.returns-in-Ok
returns-in-Ok g c = rw c.in-Ok.is (c.write_lines.ensures (g.R.Sink.state c.args.report.now))

pub returns-in-Err : goal.returns-in-Err
returns-in-Err g c = rw c.in-Err.is (c.write_report.ensures (g.O.Sink.state c.args.out.now))
