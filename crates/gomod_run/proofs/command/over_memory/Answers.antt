use Rattle.std.proofs.Common.{◌∙◌, None, inl, inr, refl}
use Rattle.gm_store_parts.specs.Memory.{memory_files_state}
use Rattle.gomod_run.specs.Program.{no_list, runs, versions_path}
use Rattle.gomod_outcomes.specs.Runs.{answers_between}
use Rattle.gomod_run.proofs.Endings.{ends_weaken}
use Rattle.gomod_run.proofs.CommandRuns.{are_its_own, answers_allowed, memory_allowed, stopped}
use Rattle.gomod_run.proofs.command.over_memory.Goals as goal

pub returns-in_err-read : goal.returns-in_err-read
returns-in_err-read g c =
    stopped _ _ _ c.in_err-read.field-0.0 c.from_residual.result c.from_residual.ensures.1 (c.in_err-read.ensures.unread None)

pub returns-in_err-files : goal.returns-in_err-files
returns-in_err-files g c =
    stopped _ _ _ c.in_err-files.field-0.0 c.from_residual-in_err-files.result c.from_residual-in_err-files.ensures.1
    (elim c.in_err-files.ensures.unread [ inl unread ↦ inl (no_list unread) | inr memory ↦ inr memory ])

pub run-requires-clause-no_sums : goal.run-requires-clause-no_sums
run-requires-clause-no_sums g c = λ isnt. c.sums-sums.ensures ∙ c.in_ok-read.ensures.no_sums isnt

pub returns : goal.returns
returns g c =
    let (list, is, holds) = c.in_ok-files.ensures.held in
    let own = are_its_own c.in_ok-files.ensures.asked refl c.run.ensures.holds.served in
    let answers = answers_between (memory_files_state c.in_ok-files.files) (memory_files_state c.run.new.files) in
    ends_weaken (λ outcome ran. runs _ _ list answers c.in_ok-read.ensures.main c.in_ok-read.ensures.sums is
    (answers_allowed answers (memory_allowed (versions_path c.args.command.now) list c.in_ok-files.files holds) own) ran)
    (rw (c.main-main.ensures, c.sums-sums.ensures) at c.run.ensures.ends)
