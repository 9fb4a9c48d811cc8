use Rattle.std.proofs.Common.{codes}
use Rattle.gomod_texts.proofs.ReportLines.{two_pieces}
use Rattle.gomod_texts.proofs.Takings.{took_piece}
use Rattle.gomod_run.proofs.WrittenTexts.{usage_written}
use Rattle.gomod_run.proofs.program.ending_of_fault.Goals as goal

pub returns-in-BadPath : goal.returns-in-BadPath
returns-in-BadPath g c =
    rw (c.in-BadPath.is, ← c.as_str-in-BadPath.ensures.value, two_pieces (codes "gomod: bad path ") c.as_str-in-BadPath.result.now)
    (usage_written (g.O.Sink.state c.args.out.now) _ _ _ c.write_line.result _ c.usage_error-in-BadPath.ensures c.write_line.ensures)

pub returns-in-BadProxy : goal.returns-in-BadProxy
returns-in-BadProxy g c =
    rw (c.in-BadProxy.is, ← c.as_str-in-BadProxy.ensures.value, two_pieces (codes "gomod: bad proxy ") c.as_str-in-BadProxy.result.now)
    (usage_written (g.O.Sink.state c.args.out.now) _ _ _ c.write_line-in-BadProxy.result _ c.usage_error-in-BadProxy.ensures
    c.write_line-in-BadProxy.ensures)

pub returns-in-Line : goal.returns-in-Line
returns-in-Line g c =
    let wrote = c.write_all.ensures in
    rw (c.in-Line.is, ← c.as_str-in-Line.ensures.value, ← c.as_bytes.ensures.value)
    (usage_written (g.O.Sink.state c.args.out.now) _ _ _ c.write_all.result _ c.usage_error.ensures
    (took_piece _ _ c.as_bytes.result.now c.write_all.result wrote.whole wrote.part wrote.fits wrote.cause))

pub returns-in-Help : goal.returns-in-Help
returns-in-Help g c = rw (c.in-Help.is, ← c.as_str.ensures.value) (c.write_text.ensures (g.R.Sink.state c.args.report.now))

pub returns-in-Version : goal.returns-in-Version
returns-in-Version g c =
    rw (c.in-Version.is, ← c.as_str-in-Version.ensures.value) (c.write_text-in-Version.ensures (g.R.Sink.state c.args.report.now))

pub returns-in-NoMemory : goal.returns-in-NoMemory
returns-in-NoMemory g c = rw c.in-NoMemory.is (c.write_report.ensures (g.O.Sink.state c.args.out.now))
