-- What the code reports of a file or an operation that it refuses. No public contract cites this.
use Rattle.std.specs.Prelude.{◌≡◌, ◌⊎◌, ℕ, List, Option, Some}
use Rattle.gm_file.specs.Main.{Main, IsMainFile}
use Rattle.gm_file_edit.specs.declared.fault.EditFault.{EditFault}
use Rattle.gm_file_edit.specs.declared.fault.EditFault.TheVariants as edit
use Rattle.gm_file_edit.specs.declared.fault.OpFault.{OpFault}
use Rattle.gm_file_edit.specs.declared.fault.OpFault.TheVariants as op
use Rattle.gomod_texts.specs.declared.reports.report.Refusal.TheVariants as refusal
use Rattle.gomod_texts.specs.declared.reports.report.Report.{Report}
use Rattle.gomod_texts.specs.declared.reports.report.Report.TheVariants as report
use Rattle.gomod_texts.specs.Outcome.{Outcome, refusal_outcome}
use Rattle.gm_file.specs.Misreading.{IsMisread}
use Rattle.gm_file.specs.Directives.{Strict}
use Rattle.gomod_texts.specs.Reports.{FaultPlace, main_line, edit_line}
use Rattle.gm_file_edit.specs.Edits.{Edit}
use Rattle.gomod_outcomes.specs.Edit.{refusal_of}
use Rattle.gomod_texts.specs.Queries.{AreInvalidSums}

-- the report of an operation that can't be parsed
abbrev pub report_by_op : ℕ → OpFault → Report
report_by_op number op.NoMemory = report.NoMemory
report_by_op number op.Spelling = report.Operation number refusal.Spelling

-- the report of an operation that can't be applied
abbrev pub report_by_edit : ℕ → EditFault → Report
report_by_edit number edit.NoMemory = report.NoMemory
report_by_edit number edit.Misfit = report.Operation number refusal.Misfit

-- the main module's file is invalid, or it is valid and the go.sum is not
abbrev pub IsRefusedRead : List ℕ → Option (List ℕ) → Outcome → Type 0
IsRefusedRead file sums outcome =
    ((place : FaultPlace) × IsMisread Strict file place.0 place.1 × (outcome ≡ refusal_outcome (main_line place)))
    ⊎ ((main : Main) × (report : List ℕ) × IsMainFile file main × AreInvalidSums sums report
    × (outcome ≡ refusal_outcome report))

-- the operation of this number is refused, and this is reported
abbrev pub IsRefusedOperation : ℕ → Option Edit → Outcome → Type 0
IsRefusedOperation number operation outcome =
    (kind : List ℕ) × (refusal_of operation ≡ Some kind) × (outcome ≡ refusal_outcome (edit_line (number, kind)))
