use Rattle.gomod_laws.proofs.EditPairs.{either_order_changes_no_build}
use Rattle.gomod_laws.proofs.edits_paired.either_order_changes_no_build.Goals as goal

pub returns : goal.returns
returns c = either_order_changes_no_build
