use Rattle.page_commands.proofs.Texts.{majors_are_told}
use Rattle.page_commands.proofs.majors_are_told.Goals as goal

pub returns : goal.returns
returns c = majors_are_told
