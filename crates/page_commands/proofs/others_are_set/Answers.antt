use Rattle.page_commands.proofs.Edits.{others_are_set}
use Rattle.page_commands.proofs.others_are_set.Goals as goal

pub returns : goal.returns
returns c = others_are_set
