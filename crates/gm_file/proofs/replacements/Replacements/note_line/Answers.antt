use Rattle.gm_file.proofs.Indexed.{path-conflict, path-indexed, version-conflict, version-indexed}
use Rattle.gm_file.proofs.replacements.Replacements.note_line.Goals as goal

pub copied_pair-requires : goal.copied_pair-requires
copied_pair-requires c = rw c.in-Some.is at c.requires.fits

pub returns-in_ok-key-in-Some-clause-indexed : goal.returns-in_ok-key-in-Some-clause-indexed
returns-in_ok-key-in-Some-clause-indexed c =
    version-indexed c.args.self.now.lines.items c.args.replace.now c.in-Some.version c.args.self.now.by_version
    c.note.new.index c.args.self.now.by_path c.in_ok-key-in-Some.key c.note.result
    c.in-Some.is c.in_ok-key-in-Some.ensures c.requires.indexed c.note.ensures

pub returns-in_ok-key-in-Some-clause-conflict : goal.returns-in_ok-key-in-Some-clause-conflict
returns-in_ok-key-in-Some-clause-conflict c =
    version-conflict c.args.self.now.lines.items c.args.replace.now c.in-Some.version c.args.self.now.by_version
    c.note.new.index c.args.self.now.by_path c.in_ok-key-in-Some.key c.note.result
    c.in-Some.is c.in_ok-key-in-Some.ensures c.requires.indexed c.note.ensures

pub returns-in_ok-key-in-None-clause-indexed : goal.returns-in_ok-key-in-None-clause-indexed
returns-in_ok-key-in-None-clause-indexed c =
    path-indexed c.args.self.now.lines.items c.args.replace.now c.args.self.now.by_version c.args.self.now.by_path
    c.note-in-None.new.index c.in_ok-key-in-None.key c.note-in-None.result
    c.in-None.is c.in_ok-key-in-None.ensures c.requires.indexed c.note-in-None.ensures

pub returns-in_ok-key-in-None-clause-conflict : goal.returns-in_ok-key-in-None-clause-conflict
returns-in_ok-key-in-None-clause-conflict c =
    path-conflict c.args.self.now.lines.items c.args.replace.now c.args.self.now.by_version c.args.self.now.by_path
    c.note-in-None.new.index c.in_ok-key-in-None.key c.note-in-None.result
    c.in-None.is c.in_ok-key-in-None.ensures c.requires.indexed c.note-in-None.ensures
