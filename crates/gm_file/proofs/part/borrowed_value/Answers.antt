use Rattle.std.proofs.Common.{sym}
use Rattle.gm_syntax.proofs.NewWords.{value_is}
use Rattle.gm_file.proofs.part.borrowed_value.Goals as goal

pub returns-clause-value : goal.returns-clause-value
returns-clause-value c = sym (value_is c.args.word.now.word _ c.in_ok-value.ensures)
