use Rattle.gm_graph_files.specs.KeptLists.{own_lists}
use Rattle.gm_graph_files.proofs.list_index.ListIndex.find.Goals as goal

pub returns-in_err-note-clause-notes : goal.returns-in_err-note-clause-notes
returns-in_err-note-clause-notes c =
    c.note.ensures.others (own_lists c.args.modules.now.numbers c.args.files.now) (c.find_noted.ensures.none c.in_default.is) c.requires.notes

pub returns-clause-notes : goal.returns-clause-notes
returns-clause-notes c =
    c.note.ensures.others (own_lists c.args.modules.now.numbers c.args.files.now) (c.find_noted.ensures.none c.in_default.is) c.requires.notes
