use Rattle.gm_file_edit.proofs.KeyedChanges.{both-inserted}
use Rattle.gm_file_edit.proofs.keyed_lines.KeyedLines.insert_after_blank.Goals as goal

pub invariant_of-self-2 : goal.invariant_of-self-2
invariant_of-self-2 c =
    let after = (both-inserted c.self.inside.lines.items c.args.at c.args.line c.self.view_is c.self.invariant.0 c.requires.in_range c.requires.loose c.requires.outside
    c.requires.key (rw c.make_room.ensures.lines at c.insert_keyed.ensures.lines) (rw c.make_room.ensures.keys at c.insert_keyed.ensures.keys)
    c.insert_keyed-2.ensures.lines (rw c.silent_key.ensures at c.insert_keyed-2.ensures.keys)) in (after.1, after.2)

pub returns-clause-ok : goal.returns-clause-ok
returns-clause-ok c =
    (both-inserted c.self.inside.lines.items c.args.at c.args.line c.self.view_is c.self.invariant.0 c.requires.in_range c.requires.loose c.requires.outside
    c.requires.key (rw c.make_room.ensures.lines at c.insert_keyed.ensures.lines) (rw c.make_room.ensures.keys at c.insert_keyed.ensures.keys)
    c.insert_keyed-2.ensures.lines (rw c.silent_key.ensures at c.insert_keyed-2.ensures.keys)).0
