use Rattle.gm_syntax.proofs.Changes.{entry_stands, standing_entry}
use Rattle.gm_syntax.proofs.laws.entries_are_valid.Goals as goal

pub returns : goal.returns
returns c = λ inside words suffix. (standing_entry inside words suffix, entry_stands inside words suffix)
