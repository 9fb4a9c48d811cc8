use Rattle.gm_version.proofs.Escapes.{escaped-small}
use Rattle.gm_name.proofs.laws.escaped_is_lower_case.Goals as goal

pub returns : goal.returns
returns c = escaped-small
