use Rattle.gm_syntax.proofs.Alternation.{alternate, alternating}
use Rattle.gm_syntax.proofs.laws.documents_alternate.Goals as goal

pub returns : goal.returns
returns c = λ lines. (alternate lines, alternating lines)
