use Rattle.gomod_words.proofs.Exclusion.{faultless}
use Rattle.gomod_words.proofs.laws.commands_have_no_fault.Goals as goal

pub returns : goal.returns
returns c = faultless
