use Rattle.gm_syntax.proofs.OneText.{no_fault_before, never_closed}
use Rattle.gm_syntax.proofs.laws.faults_are_the_first.Goals as goal

pub returns-clause-none_before : goal.returns-clause-none_before
returns-clause-none_before c = λ text lines finish r. no_fault_before text lines finish r

pub returns-clause-open_block : goal.returns-clause-open_block
returns-clause-open_block c = λ text lines number r. never_closed text lines number r
