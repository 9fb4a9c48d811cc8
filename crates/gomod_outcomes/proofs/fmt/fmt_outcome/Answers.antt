use Rattle.std.proofs.Common.{inl, inr, rules}
use Rattle.std.proofs.lemmas.Result.{err_from_is_err_and}
use Rattle.gomod_outcomes.specs.Fmt.{laid_out}
use Rattle.gomod_outcomes.proofs.Misread.{fmt_misread}
use Rattle.gomod_outcomes.proofs.PassedOn.{no_memory}
use Rattle.gomod_outcomes.proofs.fmt.fmt_outcome.Goals as goal

pub returns-in_err-doc : goal.returns-in_err-doc
returns-in_err-doc c =
    let p = err_from_is_err_and c.from_residual.result c.from_residual.ensures.1 in
    rw (p.1, p.2) (fmt_misread c.args.file.now c.in_err-doc.field-0.0 c.in_err-doc.ensures.fault)

pub returns-in_err-format : goal.returns-in_err-format
returns-in_err-format c = inr (no_memory c.from_residual-in_err-format.result c.from_residual-in_err-format.ensures.1)

pub returns : goal.returns
returns c = inl (laid_out c.in_ok-doc.doc c.in_ok-doc.ensures.read (search rules))
