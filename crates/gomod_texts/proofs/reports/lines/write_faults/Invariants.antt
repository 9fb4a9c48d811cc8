use Rattle.std.proofs.Common.{[], Ok, take}
use Rattle.gm_store_parts.specs.declared.sinks.WriteFault.{WriteFault}
use Rattle.gomod_texts.proofs.reports.lines.write_faults.Given as goal
use Rattle.gomod_texts.specs.Reports.{faults_text}
use Rattle.gomod_texts.specs.Private.Giving.{IsGiven}

-- the lines of the faults so far were given
abbrev pub invariant-faults : goal.invariant-faults
invariant-faults g l = IsGiven {E = WriteFault} (g.R.Sink.state l.fn.sink) [] (g.R.Sink.state l.sink) l.buffer
    (faults_text (take l.fault-index l.faults)) (Ok tt)
