use Rattle.std.proofs.Common.{ap, set}
use Rattle.gm_file_edit.proofs.keyed_lines.put_item.Goals as goal

pub returns : goal.returns
returns g c = ap (set c.args.list.now.items c.args.at) c.replace-before.ensures.after
