use Rattle.gomod_outcomes.proofs.PassedOn.{no_memory}
use Rattle.gomod_outcomes.proofs.VersionsSteps.{all_shown, listed_memory, shown_run}
use Rattle.gomod_outcomes.proofs.versions.listed_outcome.Goals as goal

pub returns-in_err-latest-clause-run : goal.returns-in_err-latest-clause-run
returns-in_err-latest-clause-run g c = λ first is. listed_memory is.answered (no_memory _ c.from_residual.ensures.1)

pub returns-in-Some-clause-run : goal.returns-in-Some-clause-run
returns-in-Some-clause-run g c = λ first is.
    let known = rw c.in-Some.is at c.in_ok-latest.ensures in rw known.0 (c.unretracted_outcome.ensures.run first is known.1)

pub returns-in-None-clause-run : goal.returns-in-None-clause-run
returns-in-None-clause-run g c = λ first is. shown_run (all_shown is (rw c.in-None.is at c.in_ok-latest.ensures)) c.shown_line.ensures
