use Rattle.std.proofs.lemmas.Result.{err_from_is_err_and}
use Rattle.gomod_texts.proofs.MainMisreading.{main_refused}
use Rattle.gomod_outcomes.proofs.edit.editor_of.Goals as goal

pub returns-in_err-main : goal.returns-in_err-main
returns-in_err-main c =
    let p = err_from_is_err_and c.from_residual.result c.from_residual.ensures.1 in
    rw (p.1, p.2) (main_refused c.args.file.now c.in_err-main.field-0.0 c.in_err-main.ensures.fault)
