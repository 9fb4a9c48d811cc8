use Rattle.gm_file_edit.proofs.Cuts.{version-none, version-there}
use Rattle.gm_file_edit.proofs.part.read_version.Goals as goal

pub returns-in-Ok : goal.returns-in-Ok
returns-in-Ok c = rw c.in-Ok.ensures.0 (version-there c.args.text.now c.in-Ok.ensures.1)

pub returns-in-Err-BadVersion : goal.returns-in-Err-BadVersion
returns-in-Err-BadVersion c = version-none c.args.text.now (rw c.in-Err-BadVersion.field-0-is at c.in-Err-BadVersion.ensures).0

pub returns-in-Err-NotCanonical : goal.returns-in-Err-NotCanonical
returns-in-Err-NotCanonical c = version-none c.args.text.now (rw c.in-Err-NotCanonical.field-0-is at c.in-Err-NotCanonical.ensures).1
