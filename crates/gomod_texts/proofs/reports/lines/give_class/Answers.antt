use Rattle.gomod_texts.proofs.ReportLines.{module_first}
use Rattle.gomod_texts.proofs.reports.lines.give_class.Goals as goal

pub returns : goal.returns
returns g c =
    rw (module_first c.args.path.now c.args.version.now c.args.word.now)
    (rw (c.as_str.ensures.text, c.as_str-2.ensures.text) at c.give_line.ensures)
