use Rattle.std.proofs.Common.{◌∙◌, sym}
use Rattle.gm_file.proofs.Ascending.{farther_kept, farther_new}
use Rattle.gm_file.proofs.sweep.higher_end.Goals as goal

pub returns-then-is_at_most : goal.returns-then-is_at_most
returns-then-is_at_most c = λ version. rw c.in-Some.is
    (farther_kept c.in-Some.reach.now c.args.high.now version
    (rw (c.borrowed.ensures, c.borrowed-in-Some.ensures) at (sym c.is_at_most.ensures ∙ c.if-is_at_most.true)))

pub returns-else-is_at_most : goal.returns-else-is_at_most
returns-else-is_at_most c = λ version. rw c.in-Some.is
    (farther_new c.in-Some.reach.now c.args.high.now version
    (rw (c.borrowed.ensures, c.borrowed-in-Some.ensures) at (sym c.is_at_most.ensures ∙ c.if-is_at_most.false)))
