use Rattle.std.proofs.Common.{None}
use Rattle.gomod_run.proofs.Endings.{program_status}
use Rattle.gomod_run.proofs.program.exit_code.Goals as goal

pub returns : goal.returns
returns c = rw c.from.ensures (rw c.code.ensures (program_status _ _ None c.ending_of.ensures))
