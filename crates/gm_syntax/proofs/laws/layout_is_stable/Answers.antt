use Rattle.gm_syntax.proofs.Stable.{is_stable}
use Rattle.gm_syntax.specs.Layout.{initial_state}
use Rattle.gm_syntax.proofs.LayoutLines.{layout_lines}
use Rattle.gm_syntax.proofs.laws.layout_is_stable.Goals as goal

pub returns : goal.returns
returns c = λ doc h. (layout_lines initial_state doc, is_stable doc h)
