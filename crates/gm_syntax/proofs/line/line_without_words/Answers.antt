use Rattle.gm_syntax.proofs.Classing.{class_blank, class_comment}
use Rattle.gm_syntax.proofs.line.line_without_words.Goals as goal

pub returns-in-None-clause-class : goal.returns-in-None-clause-class
returns-in-None-clause-class c = λ inside. rw (c.requires, c.in-None.is) (class_blank inside)

pub returns-in-Some-clause-class : goal.returns-in-Some-clause-class
returns-in-Some-clause-class c = λ inside. rw (c.requires, c.in-Some.is) (class_comment inside _)
