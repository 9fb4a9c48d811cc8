use Rattle.page.proofs.Reported.{faults_are_reported}
use Rattle.page.proofs.faults_are_reported.Goals as goal

pub returns : goal.returns
returns c = faults_are_reported
