use Rattle.gm_version.proofs.Escapes.{pieces}
use Rattle.gm_name.proofs.laws.escaped_texts_are_tested.Goals as goal

pub returns : goal.returns
returns c = pieces
