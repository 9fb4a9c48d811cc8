use Rattle.gomod_laws.proofs.EditListReplaced.{replaced_path_is_shown, replaced_version_is_shown}
use Rattle.gomod_laws.proofs.edits_listed.the_replacement_is_shown.Goals as goal

pub returns-clause-version : goal.returns-clause-version
returns-clause-version c = replaced_version_is_shown

pub returns-clause-path : goal.returns-clause-path
returns-clause-path c = replaced_path_is_shown
