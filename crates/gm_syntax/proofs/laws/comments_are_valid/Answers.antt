use Rattle.gm_syntax.proofs.Changes.{comment_stands}
use Rattle.gm_syntax.proofs.laws.comments_are_valid.Goals as goal

pub returns : goal.returns
returns c = λ inside text h. comment_stands inside text h
