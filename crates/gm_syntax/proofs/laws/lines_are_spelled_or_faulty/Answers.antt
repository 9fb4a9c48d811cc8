use Rattle.gm_syntax.proofs.OneReading.{spelled_or_faulty, never_both}
use Rattle.gm_syntax.proofs.laws.lines_are_spelled_or_faulty.Goals as goal

pub returns-clause-either : goal.returns-clause-either
returns-clause-either c = λ line. spelled_or_faulty line

pub returns-clause-never_both : goal.returns-clause-never_both
returns-clause-never_both c = λ line s. never_both line s
