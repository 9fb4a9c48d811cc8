use Rattle.std.proofs.Common.{◌≡◌, ◌∙◌, ap, false, inr, refl, rules, sym}
use Rattle.std.proofs.lemmas.Result.{err_from_is_err_and}
use Rattle.gm_name.specs.Path.{is_fetchable}
use Rattle.gm_store_parts.specs.Asked.{list_file, reply_of}
use Rattle.gomod_outcomes.proofs.versions.list_of.Goals.{After-last}
use Rattle.gomod_outcomes.proofs.versions.list_of.Goals as goal
use Rattle.gomod_outcomes.proofs.versions.list_of.Given.{Over}
use Rattle.gomod_outcomes.proofs.VersionsSteps.{last_answer, list_alone, listed_memory, no_list_run, unfetchable_run, unlisted_run}
use Rattle.gomod_outcomes.specs.Private.VersionsRuns.{IsListAnswered}

pub returns-then-not-is_fetchable-clause-run : goal.returns-then-not-is_fetchable-clause-run
returns-then-not-is_fetchable-clause-run g c = λ all.
    let isnt : is_fetchable c.args.path.now ≡ false = search rules in unfetchable_run c.requires isnt refl

pub returns-in_err-copy-clause-run : goal.returns-in_err-copy-clause-run
returns-in_err-copy-clause-run g c = λ all.
    let p = err_from_is_err_and c.from_residual.result c.from_residual.ensures.1 in
    rw (p.1, p.2) (unlisted_run c.requires (sym c.is_fetchable.ensures ∙ c.if-not-is_fetchable.false) (inr (refl, refl, refl)))

pub ask_for-requires : goal.ask_for-requires
ask_for-requires g c = rw c.requires refl

pub returns-in_err-ask_for-clause-run : goal.returns-in_err-ask_for-clause-run
returns-in_err-ask_for-clause-run g c = λ all.
    let p = err_from_is_err_and c.from_residual-in_err-ask_for.result c.from_residual-in_err-ask_for.ensures.1 in
    rw (p.1, p.2) (unlisted_run c.requires (sym c.is_fetchable.ensures ∙ c.if-not-is_fetchable.false)
    (rw c.in_ok-copy.ensures at c.in_err-ask_for.ensures.asked))

answered : (g : Over) (c : After-last g)
    → IsListAnswered c.args.path.now (g.F.Asks.state c.args.files.now) (g.F.Asks.state c.ask_for.new.files) (reply_of c.last.result.now)
answered g c =
    list_alone c.requires (sym c.is_fetchable.ensures ∙ c.if-not-is_fetchable.false)
    (last_answer (g.F.Asks.state c.args.files.now) (g.F.Asks.state c.ask_for.new.files) (reply_of c.last.result.now) (ap list_file c.in_ok-copy.ensures)
    c.in_ok-ask_for.ensures.asked c.last.ensures.value)

pub returns-in_err-list-clause-run : goal.returns-in_err-list-clause-run
returns-in_err-list-clause-run g c = λ all.
    let p = err_from_is_err_and c.from_residual-in_err-list.result c.from_residual-in_err-list.ensures.1 in
    rw (p.1, p.2) (no_list_run (answered g (goal.at.returns-in_err-list-clause-run g c).After-last) c.in_err-list.ensures)

pub returns-in_err-from_slice-clause-run : goal.returns-in_err-from_slice-clause-run
returns-in_err-from_slice-clause-run g c = λ all.
    let p = err_from_is_err_and c.from_residual-in_err-from_slice.result c.from_residual-in_err-from_slice.ensures.1 in
    rw (p.1, p.2) (listed_memory (rw c.in_ok-list.ensures at (answered g (goal.at.returns-in_err-from_slice-clause-run g c).After-last)) refl)

pub returns-clause-run : goal.returns-clause-run
returns-clause-run g c = λ all. rw (c.in_ok-from_slice.ensures.items, ← c.in_ok-list.ensures) (answered g (goal.at.returns-clause-run g c).After-last)
