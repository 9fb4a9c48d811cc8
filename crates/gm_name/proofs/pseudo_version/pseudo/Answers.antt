use Rattle.std.proofs.Common.{sym, subst}
use Rattle.gm_name.specs.Pseudo.{IsFront, IsStamp}
use Rattle.gm_version.specs.Version.{parts_in}
use Rattle.gm_name.proofs.Stamps.{front-dot}
use Rattle.gm_name.proofs.pseudo_version.pseudo.Goals as goal

pub returns-in_err-stamp-clause-none : goal.returns-in_err-stamp-clause-none
returns-in_err-stamp-clause-none c =
    rw c.from_residual.ensures (λ form time revision is.
    let p = parts_in c.args.version.now in
    c.in_err-stamp.ensures.none is.0 time revision (front-dot form p.1 p.2 is.0 is.1)
    (subst (λ pre. IsStamp pre is.0 time revision) (sym c.pre.ensures.text) is.2))

pub returns-in_err-form-clause-none : goal.returns-in_err-form-clause-none
returns-in_err-form-clause-none c =
    rw c.from_residual-in_err-form.ensures (λ form time revision is.
    let p = parts_in c.args.version.now in
    let only = c.in_ok-stamp.ensures.only is.0 time revision (front-dot form p.1 p.2 is.0 is.1)
    (subst (λ pre. IsStamp pre is.0 time revision) (sym c.pre.ensures.text) is.2) in
    let is_front : IsFront form c.minor.result c.patch.result c.as_bytes.result.now =
    rw (c.minor.ensures, c.patch.ensures, c.as_bytes.ensures.value, only.0) is.1 in
    c.in_err-form.ensures.none form is_front)
