use Rattle.gomod_laws.proofs.ContradictedVersions.{listed_is_missing, retracted_is_shown, unretracted_is_left_out}
use Rattle.gomod_laws.proofs.counterexamples.versions.a_retraction_can_be_ignored.Goals as goal

pub returns-clause-shown : goal.returns-clause-shown
returns-clause-shown c = retracted_is_shown

pub returns-clause-left_out : goal.returns-clause-left_out
returns-clause-left_out c = unretracted_is_left_out

pub returns-clause-missing : goal.returns-clause-missing
returns-clause-missing c = listed_is_missing
