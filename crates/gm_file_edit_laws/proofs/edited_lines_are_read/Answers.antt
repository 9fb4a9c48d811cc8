use Rattle.gm_file_edit.proofs.EditedSound.{edited-document}
use Rattle.gm_file_edit.proofs.Written.{written-sound}
use Rattle.gm_file_edit_laws.proofs.edited_lines_are_read.Goals as goal

pub returns : goal.returns
returns c = λ text edit lines written fit document none. edited-document edit lines (written-sound text edit written) fit document none
