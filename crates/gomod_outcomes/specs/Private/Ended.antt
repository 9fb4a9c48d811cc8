-- How a command ends whose text is a string.
use Rattle.std.specs.Prelude.{Result, Ok, Err, String}
use Rattle.std.specs.declared.alloc.Global.{Global}
use Rattle.std.specs.String.{string_bytes}
use Rattle.gomod_texts.specs.Outcome.{Outcome, report_outcome, text_outcome}
use Rattle.gomod_texts.specs.declared.reports.report.Report.{Report}

-- the outcome that the result stands for
abbrev pub outcome_view : Result (String Global) Report → Outcome
outcome_view (Ok text) = text_outcome (string_bytes text)
outcome_view (Err told) = report_outcome told
