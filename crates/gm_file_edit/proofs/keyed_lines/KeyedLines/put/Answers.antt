use Rattle.std.proofs.Common.{refl}
use Rattle.gm_file_edit.proofs.KeyedChanges.{replaced}
use Rattle.gm_file_edit.proofs.keyed_lines.KeyedLines.put.Goals as goal

pub invariant_of-self : goal.invariant_of-self
invariant_of-self c =
    let after = (replaced c.self.inside.lines.items c.args.at c.args.line c.self.view_is c.self.invariant.0 c.requires.in_range c.requires.old_loose c.requires.loose
    c.requires.key c.put_item.ensures refl) in (after.1, after.2)

pub returns : goal.returns
returns c =
    (replaced c.self.inside.lines.items c.args.at c.args.line c.self.view_is c.self.invariant.0 c.requires.in_range c.requires.old_loose c.requires.loose
    c.requires.key c.put_item.ensures refl).0
