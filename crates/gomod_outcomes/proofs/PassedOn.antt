-- What `?` passes on to the outcome.
use Rattle.std.proofs.lemmas.Result.{err_from_is_err_and}
use Rattle.std.proofs.Common.{◌≡◌, ◌∙◌, List, ℕ, Result, Ok, Err, ap}
use Rattle.std.specs.Prelude.{String}
use Rattle.std.specs.declared.alloc.Global.{Global}
use Rattle.std.specs.Result.{IsErrAnd}
use Rattle.gomod_texts.specs.Outcome.{Outcome, ended_view, out_of_memory, report_outcome}
use Rattle.gomod_outcomes.specs.Private.Ended.{outcome_view}
use Rattle.gomod_texts.specs.declared.reports.report.Report.{Report}
use Rattle.gomod_texts.specs.declared.reports.report.Report.TheVariants as report

-- what holds of a report holds of what is passed on
pub passed : (Is : Outcome → Type 0) (told : Report) (result : Result (String Global) Report)
    → IsErrAnd result (λ passed. passed ≡ told) → Is (report_outcome told)
    → Is (outcome_view result)
passed Is told (Err other) same is = rw same is
passed Is told (Ok text) same is = absurd same

-- the same of a text that is seen as its bytes
pub passed_text : (Is : Outcome → Type 0) (told : Report) (result : Result (List ℕ) Report)
    → IsErrAnd result (λ passed. passed ≡ told) → Is (report_outcome told)
    → Is (ended_view result)
passed_text Is told (Err other) same is = rw same is
passed_text Is told (Ok text) same is = absurd same

-- memory ran out, which is passed on
pub no_memory : (result : Result (String Global) Report) → IsErrAnd result (λ told. told ≡ report.NoMemory) → outcome_view result ≡ out_of_memory
no_memory result is = let p = err_from_is_err_and result is in ap outcome_view p.1 ∙ ap report_outcome p.2
