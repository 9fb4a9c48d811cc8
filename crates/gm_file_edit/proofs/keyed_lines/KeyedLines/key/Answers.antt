use Rattle.gm_file_edit.proofs.KeyedChanges.{key-here}
use Rattle.gm_file_edit.proofs.keyed_lines.KeyedLines.key.Goals as goal

pub returns : goal.returns
returns c = key-here c.self.inside.lines.items c.args.at c.index.ensures c.self.invariant.0 c.self.view_is c.requires
