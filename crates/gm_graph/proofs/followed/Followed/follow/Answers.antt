use Rattle.std.proofs.Common.{◌∙◌, inl, sym}
use Rattle.gm_graph.proofs.Adding.{adds_there}
use Rattle.gm_graph.proofs.followed.Followed.follow.Goals as goal

pub returns-then-has-clause-adds : goal.returns-then-has-clause-adds
returns-then-has-clause-adds c = adds_there _ _ _ (c.requires.followed (sym c.has.ensures ∙ c.if-has.true))

pub returns-then-has-clause-files : goal.returns-then-has-clause-files
returns-then-has-clause-files c = λ f is. inl is
