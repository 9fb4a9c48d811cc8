use Rattle.std.proofs.Common.{inl, inr, refl}
use Rattle.gomod_run.proofs.Endings.{ends_weaken}
use Rattle.gomod_run.proofs.WrittenTexts.{usage_ends}
use Rattle.gomod_run.proofs.program.ending_of_words.Goals as goal

pub returns-in-Ok : goal.returns-in-Ok
returns-in-Ok g c = ends_weaken (λ outcome stated. inr (c.in-Ok.command, c.in-Ok.places, c.in-Ok.ensures.read, stated)) c.run_command.ensures

pub returns-in-Err : goal.returns-in-Err
returns-in-Err g c = usage_ends c.in-Err.fault (inl (c.in-Err.fault, c.in-Err.ensures.fault, refl)) c.ending_of_fault.ensures
