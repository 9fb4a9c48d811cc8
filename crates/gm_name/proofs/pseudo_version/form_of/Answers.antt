use Rattle.gm_name.proofs.Stamps.{front-second}
use Rattle.gm_name.proofs.pseudo_version.form_of.Goals as goal

pub returns-then-ends_with-clause-some : goal.returns-then-ends_with-clause-some
returns-then-ends_with-clause-some c =
    front-second c.args.minor c.args.patch c.args.front.now c.ends_with.result c.if-front-gt3.true c.ends_with.ensures.value c.if-ends_with.true
