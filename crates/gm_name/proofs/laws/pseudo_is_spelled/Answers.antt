use Rattle.gm_name.proofs.PseudoTexts.{base-spelled, pseudo-spelled}
use Rattle.gm_name.proofs.laws.pseudo_is_spelled.Goals as goal

pub returns-clause-pseudo : goal.returns-clause-pseudo
returns-clause-pseudo c = pseudo-spelled

pub returns-clause-base : goal.returns-clause-base
returns-clause-base c = base-spelled
