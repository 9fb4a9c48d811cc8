use Rattle.gm_syntax.proofs.Changes.{lines_go_out_at}
use Rattle.gm_syntax.proofs.laws.balanced_lines_may_be_removed.Goals as goal

pub returns : goal.returns
returns c = λ lines from to le d e. lines_go_out_at lines from to le d e
