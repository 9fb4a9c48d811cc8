-- What a command ends with: what is printed, what is reported, and the exit status.
use Rattle.std.specs.Prelude.{◌≡◌, ◌⊎◌, ℕ, List, [], Result, Ok, Err}
use Rattle.gm_store_parts.specs.Asked.{name_of}
use Rattle.gm_graph_files.specs.ClassWords.{class_word}
use Rattle.gomod_texts.specs.Reports.{bad_sum_line, cannot_read_line, device_line, edit_line, fault_line, faults_text, list_line, long_sums_line, main_line, no_memory_line, not_listed_line, refusal_word, too_many_line}
use Rattle.gomod_texts.specs.declared.reports.status.Status.TheVariants.{Done, Fault, Device}
use Rattle.gomod_texts.specs.declared.reports.status.Status.{Status}
use Rattle.gomod_texts.specs.declared.reports.report.Report.TheVariants as report
use Rattle.gomod_texts.specs.declared.reports.report.Report.{Report}

-- what is printed, what is reported, and the exit status
pub record Outcome : Type 0 where
  pub text : List ℕ
  pub report : List ℕ
  pub status : ℕ

-- a text, and nothing to report
abbrev pub text_outcome : List ℕ → Outcome
text_outcome text = record { text = text; report = []; status = 0 }

-- nothing printed, and what is wrong with what was read
abbrev pub refusal_outcome : List ℕ → Outcome
refusal_outcome report = record { text = []; report = report; status = 1 }

-- nothing printed, and what failed
abbrev pub failure_outcome : List ℕ → Outcome
failure_outcome report = record { text = []; report = report; status = 3 }

-- the report that memory ran out
abbrev pub out_of_memory : Outcome
out_of_memory = failure_outcome no_memory_line

-- such an outcome, or the report that memory ran out
abbrev pub OrNoMemory : (Outcome → Type 0) → Outcome → Type 0
OrNoMemory Is outcome = Is outcome ⊎ (outcome ≡ out_of_memory)

-- the exit status
abbrev pub code_of : Status → ℕ
code_of Done = 0
code_of Fault = 1
code_of Device = 3

-- the lines of a report
abbrev pub report_text : Report → List ℕ
report_text report.NoMemory = no_memory_line
report_text (report.Main number kind) = main_line (number, kind)
report_text (report.Sums number) = bad_sum_line number
report_text report.LongSums = long_sums_line
report_text report.TooMany = too_many_line
report_text (report.Device name) = device_line (name_of name)
report_text (report.Faults faults) = faults_text faults.items
report_text (report.NotListed path) = not_listed_line path.now
report_text (report.Operation number refusal) = edit_line (number, refusal_word refusal)
report_text (report.List path class) = list_line path.now (class_word class)
report_text (report.File path version class) = fault_line (path.now, version) class
report_text (report.Unreadable name) = cannot_read_line name.now

-- the status of a run with this report
abbrev pub report_status : Report → Status
report_status report.NoMemory = Device
report_status (report.Device name) = Device
report_status (report.Unreadable name) = Device
report_status _ = Fault

-- nothing printed, and this report
abbrev pub report_outcome : Report → Outcome
report_outcome told = record { text = []; report = report_text told; status = code_of (report_status told) }

-- the outcome that a result of the library stands for: a text to print, seen as its bytes, or a report
abbrev pub ended_view : Result (List ℕ) Report → Outcome
ended_view (Ok text) = text_outcome text
ended_view (Err told) = report_outcome told
