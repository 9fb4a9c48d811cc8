use Rattle.page.proofs.Parts.{parts_are_shown}
use Rattle.page.proofs.parts_are_shown.Goals as goal

pub returns : goal.returns
returns c = parts_are_shown
