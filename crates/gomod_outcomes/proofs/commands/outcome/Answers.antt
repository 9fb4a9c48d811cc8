use Rattle.std.specs.Option.{option_map}
use Rattle.gomod_outcomes.specs.Private.Ended.{outcome_view}
use Rattle.gomod_outcomes.proofs.CommandOutcomes.{unasked_comes}
use Rattle.gomod_outcomes.proofs.VersionsSteps.{versions_come}
use Rattle.gomod_outcomes.proofs.commands.outcome.Goals as goal

pub returns-in-Versions-clause-comes : goal.returns-in-Versions-clause-comes
returns-in-Versions-clause-comes g c =
    rw (c.in-Versions.is, c.whole.ensures.same)
    (versions_come _ _ _ _ (g.F.Asks.state c.args.files.now) (g.F.Asks.state c.versions_outcome.new.files) (outcome_view c.versions_outcome.result)
    c.versions_outcome.ensures.run c.versions_outcome.ensures.served c.args.main.now (option_map (λ sums. sums.now) c.args.sums))

pub returns-in-Fmt-clause-comes : goal.returns-in-Fmt-clause-comes
returns-in-Fmt-clause-comes g c =
    rw (c.in-Fmt.is, c.whole-in-Fmt.ensures.same)
    (unasked_comes _ c.args.main.now (option_map (λ sums. sums.now) c.args.sums) _ (g.F.Asks.state c.args.files.now) _ (λ path all is. cc is) c.requires
    c.fmt_outcome.ensures)

pub returns-in-Edit-clause-comes : goal.returns-in-Edit-clause-comes
returns-in-Edit-clause-comes g c =
    rw (c.in-Edit.is, c.whole-in-Edit.ensures.same)
    (unasked_comes _ c.args.main.now (option_map (λ sums. sums.now) c.args.sums) _ (g.F.Asks.state c.args.files.now) _ (λ path all is. cc is) c.requires
    (rw c.as_slice.ensures.value at c.edit_outcome.ensures))

pub returns-in-Graph-clause-comes : goal.returns-in-Graph-clause-comes
returns-in-Graph-clause-comes g c = rw c.in-Graph.is c.answer.ensures.comes

pub returns-in-List-clause-comes : goal.returns-in-List-clause-comes
returns-in-List-clause-comes g c = rw (c.in-List.is, ← c.as_ref.ensures.value) c.answer-in-List.ensures.comes

pub returns-in-Chain-clause-comes : goal.returns-in-Chain-clause-comes
returns-in-Chain-clause-comes g c = rw c.in-Chain.is c.answer-in-Chain.ensures.comes
