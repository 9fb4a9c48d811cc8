use Rattle.gm_file_edit.proofs.Cuts.{path-none, path-there}
use Rattle.gm_file_edit.proofs.part.read_path.Goals as goal

pub returns-in-Ok : goal.returns-in-Ok
returns-in-Ok c = rw c.in-Ok.ensures.0 (path-there c.in-Ok.ensures.1)

pub returns-in-Err-BadPath : goal.returns-in-Err-BadPath
returns-in-Err-BadPath c = path-none c.args.text.now (rw c.in-Err-BadPath.field-0-is at c.in-Err-BadPath.ensures)
