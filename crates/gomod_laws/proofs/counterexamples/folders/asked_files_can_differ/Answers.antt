use Rattle.gomod_laws.proofs.ContradictedFolders as folders
use Rattle.gomod_laws.proofs.counterexamples.folders.asked_files_can_differ.Goals as goal

pub returns : goal.returns
returns c = folders.asked_files_can_differ
