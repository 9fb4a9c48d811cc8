use Rattle.gm_syntax_words.proofs.Marks.{mark_stands}
use Rattle.gm_syntax.proofs.laws.marks_are_valid.Goals as goal

pub returns : goal.returns
returns c = λ punct. mark_stands punct
