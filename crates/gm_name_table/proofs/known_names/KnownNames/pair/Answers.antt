use Rattle.std.proofs.Common.{subst}
use Rattle.std.proofs.lemmas.Result.{err_from_is_err_and}
use Rattle.gm_name_table.proofs.Pairs.{of-path, of-version}
use Rattle.gm_name.specs.Fit.{Fits}
use Rattle.gm_name_table.proofs.known_names.KnownNames.pair.Goals as goal

pub returns-in_err-path-clause-read : goal.returns-in_err-path-clause-read
returns-in_err-path-clause-read c =
    let p = err_from_is_err_and c.from_residual.result c.from_residual.ensures.1 in
    rw (p.1, p.2) (of-path c.args.path.now c.args.version.now c.in_err-path.field-0.0 c.in_err-path.ensures.read)

pub returns-in_err-version-clause-read : goal.returns-in_err-version-clause-read
returns-in_err-version-clause-read c =
    let p = err_from_is_err_and c.from_residual-in_err-version.result c.from_residual-in_err-version.ensures.1 in
    rw (p.1, p.2) (of-version c.args.path.now c.args.version.now c.in_err-version.field-0.0 c.in_ok-path.ensures.read.1 c.in_err-version.ensures.read)

pub returns-in_default-clause-read : goal.returns-in_default-clause-read
returns-in_default-clause-read c = (
  c.in_ok-path.ensures.read.1,
  c.in_ok-version.ensures.read.1,
  subst (λ v. Fits c.args.path.now v → ⊥) c.in_ok-version.ensures.read.0
      (subst (λ p. Fits p c.in_ok-version.version → ⊥) c.in_ok-path.ensures.read.0 c.in_default.ensures.none),
)

pub returns-clause-read : goal.returns-clause-read
returns-clause-read c = (
  cc (c.in-Some.ensures.some.0, c.in_ok-path.ensures.read.0, c.in_ok-version.ensures.read.0),
  c.in_ok-path.ensures.read.1,
  c.in_ok-version.ensures.read.1,
  subst (Fits c.args.path.now) c.in_ok-version.ensures.read.0
      (subst (λ p. Fits p c.in_ok-version.version) c.in_ok-path.ensures.read.0 c.in-Some.ensures.some.1),
)
