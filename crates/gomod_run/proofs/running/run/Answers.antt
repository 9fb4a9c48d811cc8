use Rattle.std.specs.Option.{option_map}
use Rattle.gomod_texts.specs.Outcome.{ended_view}
use Rattle.gomod_run.proofs.WrittenRuns.{held_written}
use Rattle.gomod_run.proofs.running.run.Goals as goal

pub returns-clause-ends : goal.returns-clause-ends
returns-clause-ends g c = record {
  outcome = ended_view c.outcome-ended.result;
  as_stated = c.outcome-ended.ensures.comes.ends;
  utf8 = c.outcome-ended.ensures.utf8;
  written = c.write_outcome.ensures;
}

pub returns-clause-holds : goal.returns-clause-holds
returns-clause-holds g c =
    held_written c.args.command.now c.args.main.now (option_map (λ sums. sums.now) c.args.sums) _ _ _ _ (ended_view c.outcome-ended.result) _ _ _ _ _
    c.write_outcome.ensures c.outcome-ended.ensures.comes.holds
