use Rattle.gomod_laws.proofs.EditPairs.{undone_is_formatted}
use Rattle.gomod_laws.proofs.edits_paired.an_undone_operation_only_formats.Goals as goal

pub returns : goal.returns
returns c = undone_is_formatted
