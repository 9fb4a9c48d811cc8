-- How a run ends that may be stopped before it begins.
use Rattle.std.specs.Prelude.{◌≡◌, Result, Ok, Err}
use Rattle.gm_store_parts.specs.Taken.{SinkState}
use Rattle.gomod_texts.specs.declared.reports.status.Status.{Status}
use Rattle.gomod_texts.specs.declared.reports.report.Report.{Report}
use Rattle.gomod_texts.specs.Outcome.{OrNoMemory, Outcome, code_of, report_outcome}
use Rattle.gomod_run.specs.Written.{EndsAsStated}

-- A run ended as stated; or it could not begin, and nothing was written: its report is one of the stated outcomes, or
-- says that memory ran out.
abbrev pub EndsOrStops : (Outcome → Type 0) → SinkState → SinkState → SinkState → SinkState → Result Status Report
    → Type 0
EndsOrStops stated out out' report report' (Ok status) = EndsAsStated stated out out' report report' (code_of status)
EndsOrStops stated out out' report report' (Err told) =
    OrNoMemory stated (report_outcome told) × (out' ≡ out) × (report' ≡ report)
