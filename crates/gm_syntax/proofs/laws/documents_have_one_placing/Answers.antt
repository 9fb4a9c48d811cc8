use Rattle.gm_syntax.proofs.OnePlacing.{one_placing}
use Rattle.gm_syntax.proofs.laws.documents_have_one_placing.Goals as goal

pub returns : goal.returns
returns c = λ source doc other parsed again placed too. one_placing source doc other parsed again placed too
