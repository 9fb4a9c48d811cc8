use Rattle.gomod_outcomes.proofs.Utf8Texts.{folders_utf8}
use Rattle.gomod_outcomes.proofs.queries.answering.folders_are_utf8.Goals as goal

pub returns : goal.returns
returns c = rw c.replaces-replaces.ensures at (folders_utf8 c.replaces-replaces.result.now)
