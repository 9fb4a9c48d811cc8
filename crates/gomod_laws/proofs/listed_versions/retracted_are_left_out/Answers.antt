use Rattle.gomod_laws.proofs.VersionRuns.{retracted_are_left_out}
use Rattle.gomod_laws.proofs.listed_versions.retracted_are_left_out.Goals as goal

pub returns : goal.returns
returns c = retracted_are_left_out
