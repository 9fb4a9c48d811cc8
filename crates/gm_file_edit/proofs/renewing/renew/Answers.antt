use Rattle.gm_syntax.specs.LineViews.{line_of}
use Rattle.gm_file_edit.proofs.NewKeys.{at-without}
use Rattle.gm_file_edit.proofs.renewing.renew.Goals as goal

pub pack-requires : goal.pack-requires
pack-requires c = rw c.put.ensures (at-without c.args.marks.items c.args.lines.now c.args.first (line_of c.args.line) c.requires.others)
