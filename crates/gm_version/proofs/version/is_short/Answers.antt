use Rattle.gm_version.proofs.Versions.{short-cut, short-whole}
use Rattle.gm_version.proofs.version.is_short.Goals as goal

pub returns-then-is_number : goal.returns-then-is_number
returns-then-is_number c =
    let cut = short-cut c.args.text.now c.in-Some.major c.in-Some.minor c.in-Some.ensures.cases in (
      λ t. cut.0 (c.is_number.ensures.0 c.if-is_number.true, c.is_number-then-is_number.ensures.0 t),
      λ short. c.is_number-then-is_number.ensures.1 (cut.1 short).1,
    )

pub returns-else-is_number : goal.returns-else-is_number
returns-else-is_number c =
    let cut = short-cut c.args.text.now c.in-Some.major c.in-Some.minor c.in-Some.ensures.cases in
    (λ t. cc (t, c.if-is_number.false), λ short. c.is_number.ensures.1 (cut.1 short).0)

pub returns-in-None : goal.returns-in-None
returns-in-None c =
    let whole = short-whole c.args.text.now c.in-None.ensures.cases in
    (λ t. whole.0 (c.is_number-in-None.ensures.0 t), λ short. c.is_number-in-None.ensures.1 (whole.1 short))
