use Rattle.gm_file_edit.proofs.Places.{edited-same}
use Rattle.gm_file_edit_laws.proofs.places_are_not_looked_at.Goals as goal

pub returns : goal.returns
returns c = edited-same
