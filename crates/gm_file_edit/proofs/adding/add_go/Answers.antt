use Rattle.gm_file_edit.proofs.adding.add_go.Goals as goal

pub insert_single-requires-clause-about : goal.insert_single-requires-clause-about
insert_single-requires-clause-about c = rw c.in_ok-words.ensures c.requires.about
