use Rattle.gomod_laws.proofs.FormattingProofs.{formatting_changes_no_build}
use Rattle.gomod_laws.proofs.formatting.formatting_changes_no_build.Goals as goal

pub returns : goal.returns
returns c = formatting_changes_no_build
