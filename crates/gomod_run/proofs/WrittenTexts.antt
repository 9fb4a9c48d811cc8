-- How a text, a report or a usage error was written.
use Rattle.std.proofs.Common.{◌≡◌, ℕ, List, MatchResult, Result, Ok, Err, inl, inr, refl, subst}
use Rattle.std.specs.Str.{IsUtf8}
use Rattle.std.proofs.lemmas.Str.{IsUtf8-nil, IsUtf8-string_bytes}
use Rattle.gm_store_parts.specs.Taken.{SinkState}
use Rattle.gm_store_parts.specs.declared.sinks.WriteFault.{WriteFault}
use Rattle.gomod_texts.specs.declared.reports.report.Report.{Report}
use Rattle.gomod_texts.specs.Taking.{Took, TookAll, TookPrefix}
use Rattle.gomod_texts.specs.Outcome.{Outcome, code_of, text_outcome, report_outcome, report_status, report_text}
use Rattle.gomod_texts.proofs.Takings.{took_nothing}
use Rattle.gomod_run.specs.Program.{usage_error, usage_outcome}
use Rattle.gomod_words.specs.declared.usage.UsageFault.{UsageFault}
use Rattle.gomod_words.specs.declared.usage.UsageFault.TheVariants.{Help, Version}
use Rattle.gomod_run.specs.Written.{EndsAsStated, IsWritten}

-- ---- texts and reports

-- a text, if it was written, or a prefix of it
pub text_written : {out out' : SinkState} (report : SinkState) {text : List ℕ} → TookAll out out' text
    → IsWritten (text_outcome text) out out' report report 0
text_written report took = inl ((took, took_nothing report), refl)

pub text_cut : {out out' : SinkState} (report : SinkState) {text : List ℕ} → TookPrefix out out' text
    → IsWritten (text_outcome text) out out' report report 3
text_cut report part = inr (inl (part, refl), refl)

-- a report, if it was written, or a prefix of it
pub report_written : {report report' : SinkState} (out : SinkState) (told : Report) {status : ℕ} → status ≡ code_of (report_status told)
    → TookAll report report' (report_text told) → IsWritten (report_outcome told) out out report report' status
report_written out told same took = inl ((took_nothing out, took), same)

pub report_cut : {report report' : SinkState} (out : SinkState) (told : Report) → TookPrefix report report' (report_text told)
    → IsWritten (report_outcome told) out out report report' 3
report_cut out told part = inr (inr (took_nothing out, part), refl)

-- a usage error, whether it was written or a prefix of it
pub usage_written : (out : SinkState) (report report' : SinkState) (text : List ℕ) (written : Result (Unit {0}) WriteFault) (status : ℕ)
    → MatchResult written (λ _. status ≡ 2) (λ _. status ≡ 3) → Took report report' text written
    → IsWritten (usage_error text) out out report report' status
usage_written out report report' text (Ok u) status same took = inl ((took_nothing out, took), same)
usage_written out report report' text (Err e) status same part = inr (inr (took_nothing out, part), same)

-- ---- which outcome it was

-- an outcome that equals the one that was written
pub written_as : (one other : Outcome) (out out' report report' : SinkState) (status : ℕ) → one ≡ other
    → IsWritten one out out' report report' status → IsWritten other out out' report report' status
written_as one other out out' report report' status same written =
    subst (λ outcome. IsWritten outcome out out' report report' status) same written

usage_utf8 : (fault : UsageFault) → IsUtf8 (usage_outcome fault).text
usage_utf8 (Help text) = IsUtf8-string_bytes text
usage_utf8 (Version text) = IsUtf8-string_bytes text
usage_utf8 fault = IsUtf8-nil

-- an end with a usage error, or with help or the version
pub usage_ends : {stated : Outcome → Type 0} {out out' report report' : SinkState} {status : ℕ} (fault : UsageFault) → stated (usage_outcome fault)
    → IsWritten (usage_outcome fault) out out' report report' status → EndsAsStated stated out out' report report' status
usage_ends fault is written = record { outcome = usage_outcome fault; as_stated = inl is; utf8 = usage_utf8 fault; written = written }
