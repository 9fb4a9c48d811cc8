use Rattle.std.proofs.Common.{codes, refl}
use Rattle.gomod_hints.proofs.hints.form_of.Goals as goal

pub returns-then-has_text : goal.returns-then-has_text
returns-then-has_text c = (codes ".mod", c.has_text.ensures.0 c.if-has_text.true, refl)

pub returns-then-has_text-2 : goal.returns-then-has_text-2
returns-then-has_text-2 c = (codes "://", c.has_text-else-has_text.ensures.0 c.if-has_text-2.true, refl)

pub returns-then-has_text-3 : goal.returns-then-has_text-3
returns-then-has_text-3 c = (codes "@", c.has_text-else-has_text-2.ensures.0 c.if-has_text-3.true, refl)

pub returns-then-has_text-4 : goal.returns-then-has_text-4
returns-then-has_text-4 c = (codes ".", c.has_text-else-has_text-3.ensures.0 c.if-has_text-4.true, refl)

pub returns-then-has_text-5 : goal.returns-then-has_text-5
returns-then-has_text-5 c = (codes "/", c.has_text-else-has_text-4.ensures.0 c.if-has_text-5.true, refl)
