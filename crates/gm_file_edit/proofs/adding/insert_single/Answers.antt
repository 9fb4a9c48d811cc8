use Rattle.std.proofs.Common.{◌∙◌, None, false, refl, sym}
use Rattle.gm_file_edit.proofs.adding.insert_single.Goals as goal

pub insert_after_blank-requires-clause-key : goal.insert_after_blank-requires-clause-key
insert_after_blank-requires-clause-key c = rw c.in_ok-entry.ensures (c.placed.ensures ∙ sym (c.requires.about None false refl tt))
