use Rattle.std.proofs.Common.{codes, inl, sym, subst, arith}
use Rattle.gm_name.specs.Pseudo.{IsFront, IsStamp}
use Rattle.gm_version.specs.Version.{parts_in}
use Rattle.gm_name.proofs.BaseVersions.{pre-before}
use Rattle.gm_name.proofs.Majors.{strip-joined}
use Rattle.gm_name.proofs.Stamps.{base-pseudo, front-dot, front-second_some, front-unique}
use Rattle.gm_name.proofs.base_version.base.Goals as goal

pub returns-in_default-clause-none : goal.returns-in_default-clause-none
returns-in_default-clause-none c = λ text is.
    let p = parts_in c.args.version.now in
    let b = base-pseudo c.args.version.now text is in
    c.in_default.ensures.none b.5.0 b.1 b.2 (front-dot b.0 p.1 p.2 b.5.0 b.5.1)
    (subst (λ pre. IsStamp pre b.5.0 b.1 b.2) (sym c.pre.ensures.text) b.5.2)

pub returns-in_default-form_of-clause-none : goal.returns-in_default-form_of-clause-none
returns-in_default-form_of-clause-none c = λ text is.
    let p = parts_in c.args.version.now in
    let b = base-pseudo c.args.version.now text is in
    let only = c.in-Some.ensures.only b.5.0 b.1 b.2 (front-dot b.0 p.1 p.2 b.5.0 b.5.1)
    (subst (λ pre. IsStamp pre b.5.0 b.1 b.2) (sym c.pre.ensures.text) b.5.2) in
    let is_front : IsFront b.0 c.minor.result c.patch.result c.as_bytes.result.now =
    rw (c.minor.ensures, c.patch.ensures, c.as_bytes.ensures.value, only.0) b.5.1 in
    c.in_default-form_of.ensures.none b.0 is_front

pub returns-then-form-eq2-clause-some : goal.returns-then-form-eq2-clause-some
returns-then-form-eq2-clause-some c =
    let joined = strip-joined c.in-Some.stamp.front.now (codes ".0.") c.in-Some-strip_suffix.before.now c.in-Some-strip_suffix.ensures.cases in
    let is_front = rw (c.as_bytes.ensures.value, joined, c.if-form-eq2.true) at c.in-Some-form_of.ensures.some in
    let stamp = rw (c.pre.ensures.text, joined) at c.in-Some.ensures.some in (
      c.in-Some.stamp.time.now,
      c.in-Some.stamp.revision.now,
      inl (
        c.in-Some-strip_suffix.before.now,
        front-second_some _ _ c.in-Some-strip_suffix.before.now is_front,
        stamp,
        rw c.patch-then-form-eq2.ensures at c.in_ok-with.ensures,
      ),
    )

pub returns-clause-none : goal.returns-clause-none
returns-clause-none c = λ text is.
    let p = parts_in c.args.version.now in
    let b = base-pseudo c.args.version.now text is in
    let only = c.in-Some.ensures.only b.5.0 b.1 b.2 (front-dot b.0 p.1 p.2 b.5.0 b.5.1)
    (subst (λ pre. IsStamp pre b.5.0 b.1 b.2) (sym c.pre.ensures.text) b.5.2) in
    let is_front : IsFront b.0 c.minor.result c.patch.result c.as_bytes.result.now =
    rw (c.minor.ensures, c.patch.ensures, c.as_bytes.ensures.value, only.0) b.5.1 in
    let same = front-unique b.0 c.in-Some-form_of.form c.minor.result c.patch.result c.as_bytes.result.now is_front c.in-Some-form_of.ensures.some in
    absurd (omega (arith, c.if-form-eq2.false, c.if-form-eq3.false))

pub with-requires : goal.with-requires
with-requires c =
    let joined = strip-joined c.in-Some.stamp.front.now (codes ".0.") c.in-Some-strip_suffix.before.now c.in-Some-strip_suffix.ensures.cases in
    let stamp = rw joined at c.in-Some.ensures.some in
    pre-before c.in-Some-strip_suffix.before.now c.pre.ensures.valid stamp
