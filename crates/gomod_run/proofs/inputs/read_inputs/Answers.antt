use Rattle.std.proofs.Common.{inl, inr, option_map}
use Rattle.std.proofs.lemmas.Result.{err_from_is_err_and}
use Rattle.std.specs.String.{string_bytes}
use Rattle.gomod_run.specs.Program.{FileGives, no_main, no_sums}
use Rattle.gomod_run.proofs.CommandRuns.{no_sums_read}
use Rattle.gomod_run.proofs.inputs.read_inputs.Goals as goal

pub returns-in_err-main-clause-unread : goal.returns-in_err-main-clause-unread
returns-in_err-main-clause-unread g c = λ proxy.
    let p = err_from_is_err_and c.from_residual.result c.from_residual.ensures.1 in
    let unread = rw c.main_name.ensures at c.in_err-main.ensures in
    rw (p.1, p.2) (elim unread [ inl is ↦ inl (no_main is) | inr memory ↦ inr memory ])

pub returns-in_err-sums-clause-unread : goal.returns-in_err-sums-clause-unread
returns-in_err-sums-clause-unread g c = λ proxy.
    let p = err_from_is_err_and c.from_residual-in_err-sums.result c.from_residual-in_err-sums.ensures.1 in
    let read = rw c.main_name.ensures at c.in_ok-main.ensures in
    let unread = rw c.sums_name.ensures at c.in_err-sums.ensures in
    rw (p.1, p.2) (elim unread [ inl is ↦ inl (no_sums c.in_ok-main.main read is) | inr memory ↦ inr memory ])

pub returns-clause-no_sums : goal.returns-clause-no_sums
returns-clause-no_sums g c =
    no_sums_read (FileGives (g.S.FileSystem.may_open c.args.rt.now) (g.S.StandardInput.may_take c.args.rt.now)) c.args.command.now
    (option_map string_bytes c.args.places.now.sums) c.in_ok-sums.sums (rw c.sums_name.ensures at c.in_ok-sums.ensures)
