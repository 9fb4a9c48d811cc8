use Rattle.gomod_texts.proofs.ReportLines.{class_alone}
use Rattle.gomod_texts.proofs.reports.lines.give_fault.Goals as goal

pub returns-in-Malformed : goal.returns-in-Malformed
returns-in-Malformed g c = rw (c.in-Malformed.is, ← c.format.ensures.text, ← c.word.ensures) c.give_malformed.ensures

pub returns-in_default : goal.returns-in_default
returns-in_default g c =
    rw (class_alone c.args.class c.in_default.not-Malformed, ← c.word-in_default.ensures) c.give_class.ensures
