use Rattle.gomod_outcomes.proofs.Operations.{op_accepted, op_applied, op_refused}
use Rattle.gomod_outcomes.proofs.edit.apply_text.Goals as goal

pub returns-in-Ok-clause-accepted : goal.returns-in-Ok-clause-accepted
returns-in-Ok-clause-accepted c =
    op_accepted c.args.number c.args.text.now c.in-Ok.op c.in-Ok.ensures.ok c.apply.result c.reported.result c.reported.ensures.ok c.apply.ensures.misfit.1

pub returns-in-Ok-clause-applied : goal.returns-in-Ok-clause-applied
returns-in-Ok-clause-applied c =
    op_applied c.args.number c.args.text.now c.in-Ok.op c.in-Ok.ensures.ok c.args.editor.now c.apply.new.self
    c.apply.result c.reported.result c.reported.ensures.ok c.apply.ensures.ok

pub returns-in-Ok-clause-refused : goal.returns-in-Ok-clause-refused
returns-in-Ok-clause-refused c =
    op_refused c.args.number c.args.text.now c.in-Ok.op c.in-Ok.ensures.ok c.apply.result c.reported.result c.reported.ensures.err c.apply.ensures.misfit.0
