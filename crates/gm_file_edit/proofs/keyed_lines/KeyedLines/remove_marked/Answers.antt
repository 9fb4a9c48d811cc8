use Rattle.gm_file_edit.proofs.KeyedChanges.{removed}
use Rattle.gm_file_edit.proofs.keyed_lines.KeyedLines.remove_marked.Goals as goal

pub invariant_of-self : goal.invariant_of-self
invariant_of-self c =
    let after = (removed c.self.inside.lines.items c.args.marks.now c.self.view_is c.self.invariant.0 c.requires.in_blocks c.keep_unmarked.ensures c.keep_unmarked-2.ensures) in (after.1, after.2)

pub returns : goal.returns
returns c =
    (removed c.self.inside.lines.items c.args.marks.now c.self.view_is c.self.invariant.0 c.requires.in_blocks c.keep_unmarked.ensures c.keep_unmarked-2.ensures).0
