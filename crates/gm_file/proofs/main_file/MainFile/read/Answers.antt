use Rattle.gm_file.proofs.main_file.MainFile.read.Goals as goal

pub of_fields-requires-clause-read : goal.of_fields-requires-clause-read
of_fields-requires-clause-read c = rw c.lines.ensures.lines at c.in_ok-fields.ensures.ok
