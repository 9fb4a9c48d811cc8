use Rattle.gomod_laws.proofs.FormattingProofs.{layouts_are_formatted}
use Rattle.gomod_laws.proofs.formatting.layouts_are_formatted.Goals as goal

pub returns : goal.returns
returns c = layouts_are_formatted
