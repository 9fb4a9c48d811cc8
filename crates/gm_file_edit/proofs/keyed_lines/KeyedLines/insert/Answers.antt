use Rattle.gm_file_edit.proofs.KeyedChanges.{inserted}
use Rattle.gm_file_edit.proofs.keyed_lines.KeyedLines.insert.Goals as goal

pub invariant_of-self-2 : goal.invariant_of-self-2
invariant_of-self-2 c =
    let after = (inserted c.self.inside.lines.items c.args.at c.args.line c.self.view_is c.self.invariant.0 c.requires.in_range c.requires.loose c.requires.key
    (rw c.make_room.ensures.lines at c.insert_keyed.ensures.lines)
    (rw c.make_room.ensures.keys at c.insert_keyed.ensures.keys)) in (after.1, after.2)

pub returns-clause-ok : goal.returns-clause-ok
returns-clause-ok c =
    (inserted c.self.inside.lines.items c.args.at c.args.line c.self.view_is c.self.invariant.0 c.requires.in_range c.requires.loose c.requires.key
    (rw c.make_room.ensures.lines at c.insert_keyed.ensures.lines)
    (rw c.make_room.ensures.keys at c.insert_keyed.ensures.keys)).0
