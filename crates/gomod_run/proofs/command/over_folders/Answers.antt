use Rattle.std.proofs.Common.{◌∙◌, None, Some, inr, refl}
use Rattle.std.specs.String.{string_bytes}
use Rattle.gm_store.specs.Views.{fallback_state}
use Rattle.gomod_run.specs.Program.{runs}
use Rattle.gomod_texts.specs.declared.reports.report.Report.TheVariants.{NoMemory}
use Rattle.gomod_outcomes.specs.Runs.{answers_between}
use Rattle.gomod_run.proofs.Endings.{ends_weaken}
use Rattle.gomod_run.proofs.CommandRuns.{are_its_own, answers_allowed, stopped}
use Rattle.gomod_run.proofs.command.over_folders.Goals as goal

pub returns-in_err-read : goal.returns-in_err-read
returns-in_err-read g c =
    stopped _ _ _ c.in_err-read.field-0.0 c.from_residual.result c.from_residual.ensures.1 (c.in_err-read.ensures.unread (Some c.args.folders))

pub returns-in_err-folder : goal.returns-in_err-folder
returns-in_err-folder g c = stopped _ _ _ NoMemory c.from_residual-in_err-folder.result c.from_residual-in_err-folder.ensures.1 (inr refl)

pub run-requires-clause-no_sums : goal.run-requires-clause-no_sums
run-requires-clause-no_sums g c = λ isnt. c.sums-sums.ensures ∙ c.in_ok-read.ensures.no_sums isnt

pub returns : goal.returns
returns g c =
    let own = are_its_own c.folders_of-files.ensures.asked c.folders_of-files.ensures.refused c.run.ensures.holds.served in
    let answers = answers_between (fallback_state c.folders_of-files.result) (fallback_state c.run.new.files) in
    ends_weaken (λ outcome ran. runs _ _ None answers c.in_ok-read.ensures.main c.in_ok-read.ensures.sums tt (
      string_bytes c.in_ok-folder.folder,
      (rw c.as_str.ensures.value at c.in_ok-folder.ensures),
      answers_allowed answers c.folders_of-files.ensures.answers own,
    ) ran)
    (rw (c.main-main.ensures, c.sums-sums.ensures) at c.run.ensures.ends)
