use Rattle.gomod_laws.proofs.FolderRuns.{more_folders_change_nothing}
use Rattle.gomod_laws.proofs.more_folders.more_folders_change_nothing.Goals as goal

pub returns : goal.returns
returns c = more_folders_change_nothing
