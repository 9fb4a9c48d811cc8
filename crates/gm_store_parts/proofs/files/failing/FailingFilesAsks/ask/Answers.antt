use Rattle.std.proofs.Common.{◌-◌, Some, arith, refl}
use Rattle.std.proofs.lemmas.Result.{err_from_is_err_and}
use Rattle.gm_store_parts.specs.Asked.{name_of}
use Rattle.gm_store_parts.specs.declared.files.failing.FailingFiles.{FailingFiles}
use Rattle.gm_store_parts.proofs.Failing.{passed_on}
use Rattle.gm_store_parts.proofs.files.failing.FailingFilesAsks.ask.Goals as goal

pub returns-in_err-ask-in-Some-clause-request : goal.returns-in_err-ask-in-Some-clause-request
returns-in_err-ask-in-Some-clause-request c =
    let old = c.args.self.now in
    let new : FailingFiles = record { inside = c.ask.new.self; left = old.left; refusals = old.refusals } in
    let p = err_from_is_err_and c.from_residual.result c.from_residual.ensures.1 in
    rw (p.1, p.2) (passed_on old new refl (λ n is. (n, is)) (omega arith) (name_of c.args.name.now) _ c.in_err-ask-in-Some.ensures)

pub returns-in_ok-ask-in-Some-clause-request : goal.returns-in_ok-ask-in-Some-clause-request
returns-in_ok-ask-in-Some-clause-request c =
    let old = c.args.self.now in
    let new : FailingFiles = record { inside = c.ask.new.self; left = Some (c.in-Some.left - 1); refusals = old.refusals } in
    passed_on old new refl (λ n is. (c.in-Some.left, c.in-Some.is)) (rw c.in-Some.is (omega arith)) (name_of c.args.name.now) _ c.in_ok-ask-in-Some.ensures

pub returns-in-None-clause-request : goal.returns-in-None-clause-request
returns-in-None-clause-request c =
    let old = c.args.self.now in
    let new : FailingFiles = record { inside = c.ask-in-None.new.self; left = old.left; refusals = old.refusals } in
    passed_on old new refl (λ n is. (n, is)) (omega arith) (name_of c.args.name.now) c.ask-in-None.result c.ask-in-None.ensures
