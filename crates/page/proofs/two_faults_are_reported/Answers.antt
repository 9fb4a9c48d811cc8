use Rattle.page.proofs.Reported.{two_faults_are_reported}
use Rattle.page.proofs.two_faults_are_reported.Goals as goal

pub returns : goal.returns
returns c = two_faults_are_reported
