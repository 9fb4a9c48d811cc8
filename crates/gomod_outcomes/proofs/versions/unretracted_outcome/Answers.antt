use Rattle.std.proofs.Common.{inr, refl}
use Rattle.std.proofs.lemmas.Result.{err_from_is_err_and}
use Rattle.gm_file.specs.Views.{interval_views}
use Rattle.gm_store_parts.specs.Asked.{mod_file, reply_of}
use Rattle.gomod_outcomes.proofs.versions.unretracted_outcome.Goals.{After-last}
use Rattle.gomod_outcomes.proofs.versions.unretracted_outcome.Goals as goal
use Rattle.gomod_outcomes.proofs.versions.unretracted_outcome.Given.{Over}
use Rattle.gomod_outcomes.proofs.VersionsSteps.{file_faulty, file_memory, file_unanswered, file_valid, last_answer, shown_run}
use Rattle.gomod_outcomes.specs.Private.Asking.{IsAnsweredAsk}

pub returns-in_err-mod_name-clause-run : goal.returns-in_err-mod_name-clause-run
returns-in_err-mod_name-clause-run g c = λ first is greatest.
    let p = err_from_is_err_and c.from_residual.result c.from_residual.ensures.1 in
    rw (p.1, p.2) (file_unanswered _ is greatest (inr (refl, refl, refl)))

pub ask_for-requires : goal.ask_for-requires
ask_for-requires g c = rw c.in_ok-mod_name.ensures c.requires.unasked

pub returns-in_err-ask_for-clause-run : goal.returns-in_err-ask_for-clause-run
returns-in_err-ask_for-clause-run g c = λ first is greatest.
    let p = err_from_is_err_and c.from_residual-in_err-ask_for.result c.from_residual-in_err-ask_for.ensures.1 in
    rw (p.1, p.2) (file_unanswered _ is greatest (rw c.in_ok-mod_name.ensures at c.in_err-ask_for.ensures.asked))

heard : (g : Over) (c : After-last g)
    → IsAnsweredAsk (mod_file c.args.path.now c.args.latest) (g.F.Asks.state c.args.files.now) (g.F.Asks.state c.ask_for.new.files) (reply_of c.last.result.now)
heard g c =
    last_answer (g.F.Asks.state c.args.files.now) (g.F.Asks.state c.ask_for.new.files) (reply_of c.last.result.now) c.in_ok-mod_name.ensures
    c.in_ok-ask_for.ensures.asked c.last.ensures.value

pub returns-in_err-file-clause-run : goal.returns-in_err-file-clause-run
returns-in_err-file-clause-run g c = λ first is greatest.
    let p = err_from_is_err_and c.from_residual-in_err-file.result c.from_residual-in_err-file.ensures.1 in
    rw (p.1, p.2) (file_memory _ is greatest _ (heard g (goal.at.returns-in_err-file-clause-run g c).After-last) refl)

pub returns-in-Valid-clause-run : goal.returns-in-Valid-clause-run
returns-in-Valid-clause-run g c = λ first is greatest.
    shown_run
    (file_valid _ is greatest _ (heard g (goal.at.returns-in-Valid-clause-run g c).After-last) c.in-Valid.file.dependency
    (interval_views c.retracts.result.now)
    (rw c.in-Valid.is at (c.in_ok-file.ensures.reading (mod_file c.args.path.now c.args.latest) c.last.ensures.within_limit))
    (rw c.retracts.ensures (rw c.in-Valid.is at c.in_ok-file.ensures.retracts)))
    c.shown_line.ensures

pub returns-clause-run : goal.returns-clause-run
returns-clause-run g c = λ first is greatest.
    file_faulty _ is greatest _ (heard g (goal.at.returns-clause-run g c).After-last) c.in-Faulty.class
    (rw c.in-Faulty.is at (c.in_ok-file.ensures.reading (mod_file c.args.path.now c.args.latest) c.last.ensures.within_limit))
