use Rattle.gm_syntax.proofs.ReadBack.{text_read_back}
use Rattle.gm_syntax.proofs.laws.layout_is_read_back.Goals as goal

pub returns : goal.returns
returns c = text_read_back
