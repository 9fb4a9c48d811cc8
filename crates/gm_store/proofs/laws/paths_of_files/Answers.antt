use Rattle.gm_store.proofs.Inside.{texts_differ, texts_small}
use Rattle.gm_store.proofs.laws.paths_of_files.Goals as goal

pub returns-clause-differ : goal.returns-clause-differ
returns-clause-differ c = texts_differ

pub returns-clause-small : goal.returns-clause-small
returns-clause-small c = texts_small
