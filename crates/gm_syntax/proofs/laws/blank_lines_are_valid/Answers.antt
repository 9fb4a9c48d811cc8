use Rattle.gm_syntax.proofs.Changes.{blank_stands}
use Rattle.gm_syntax.proofs.laws.blank_lines_are_valid.Goals as goal

pub returns : goal.returns
returns c = λ inside. blank_stands inside
