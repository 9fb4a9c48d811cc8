use Rattle.std.proofs.Common.{codes}
use Rattle.gomod_texts.proofs.ReportLines.{two_pieces}
use Rattle.gomod_texts.proofs.reports.lines.write_unreadable.Goals as goal

pub returns : goal.returns
returns g c = rw (two_pieces (codes "gomod: cannot read ") c.args.name.now) c.write_line.ensures
