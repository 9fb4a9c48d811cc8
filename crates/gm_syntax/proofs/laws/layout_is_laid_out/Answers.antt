use Rattle.gm_syntax.proofs.LaidOut.{is_layout}
use Rattle.gm_syntax.proofs.laws.layout_is_laid_out.Goals as goal

pub returns : goal.returns
returns c = λ lines. is_layout lines
