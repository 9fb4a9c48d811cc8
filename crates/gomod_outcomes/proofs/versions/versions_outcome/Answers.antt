use Rattle.gm_store_parts.proofs.Serving.{served_both}
use Rattle.gomod_outcomes.proofs.versions.versions_outcome.Goals as goal
use Rattle.gomod_outcomes.proofs.VersionsSteps.{file_unasked, listed_memory}
use Rattle.gomod_outcomes.proofs.PassedOn.{no_memory, passed}
use Rattle.gomod_outcomes.specs.Private.VersionsRuns.{IsVersionsRun}

pub returns-in_err-list-clause-run : goal.returns-in_err-list-clause-run
returns-in_err-list-clause-run g c = passed (IsVersionsRun _ _ _ _) _ _ c.from_residual.ensures.1 (c.in_err-list.ensures.run c.args.all)

pub returns-in_err-list-clause-served : goal.returns-in_err-list-clause-served
returns-in_err-list-clause-served g c = c.in_err-list.ensures.served

pub returns-in_err-versions-clause-run : goal.returns-in_err-versions-clause-run
returns-in_err-versions-clause-run g c =
    listed_memory (c.in_ok-list.ensures.run c.args.all) (no_memory _ c.from_residual-in_err-versions.ensures.1)

pub returns-in_err-versions-clause-served : goal.returns-in_err-versions-clause-served
returns-in_err-versions-clause-served g c = c.in_ok-list.ensures.served

pub listed_outcome-requires-clause-unasked : goal.listed_outcome-requires-clause-unasked
listed_outcome-requires-clause-unasked g c = file_unasked (c.in_ok-list.ensures.run c.args.all)

pub listed_outcome-requires-clause-sorted : goal.listed_outcome-requires-clause-sorted
listed_outcome-requires-clause-sorted g c = rw c.as_slice-2.ensures.value c.in_ok-versions.ensures.ascending

pub returns-clause-run : goal.returns-clause-run
returns-clause-run g c = c.listed_outcome.ensures.run _ (record {
  list = c.in_ok-list.list.items;
  answered = c.in_ok-list.ensures.run c.args.all;
  listed = rw (c.as_slice-2.ensures.value, ← c.as_slice.ensures.value) c.in_ok-versions.ensures;
})

pub returns-clause-served : goal.returns-clause-served
returns-clause-served g c = served_both _ _ _ _ _ _ c.in_ok-list.ensures.served c.listed_outcome.ensures.served
