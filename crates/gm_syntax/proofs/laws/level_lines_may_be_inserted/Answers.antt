use Rattle.gm_syntax.proofs.Changes.{level_line_goes_in_at}
use Rattle.gm_syntax.proofs.laws.level_lines_may_be_inserted.Goals as goal

pub returns : goal.returns
returns c = λ lines at line inside d k s. level_line_goes_in_at lines at line inside d k s
