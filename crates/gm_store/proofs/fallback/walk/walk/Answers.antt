use Rattle.std.proofs.Common.{◌∙◌, ap, arith, refl, subst, sym}
use Rattle.gm_store_parts.specs.Asked.{name_of, reply_of}
use Rattle.gm_store_parts.specs.Steps.{Counts, HasCounted, reply_in, result_of, step_of}
use Rattle.gm_store.specs.Counted.{counts_in, inner_folders}
use Rattle.std.specs.Option.{option_map}
use Rattle.gm_store.proofs.Limits.{same_limit}
use Rattle.gm_store.proofs.Walks.{walk_outcome, fail_counts, none_passed, HasPassed-one_more, passed_counts, stop_counts, unanswered, walk_ends}
use Rattle.gm_store.proofs.fallback.walk.walk.Goals as goal

pub turns-init : goal.turns-init
turns-init g c = (refl, none_passed _ c.args.marks.now (counts_in c.args.folders.now) (omega arith) (omega arith))

pub turns-preserved : goal.turns-preserved
turns-preserved g c =
    let seen = subst (λ folders. g.F.FolderList.may_find folders c.turns.at (name_of c.args.name.now)
    (result_of c.in_ok-looked.looked)) c.turns.invariant.0 c.in_ok-looked.ensures.possible in (
      c.look.ensures.folders ∙ c.turns.invariant.0,
      HasPassed-one_more _ c.args.marks.now c.turns.at (counts_in c.args.folders.now) (counts_in c.turns.folders) _
          (result_of c.in_ok-looked.looked) c.turns.invariant.1 seen
          (c.in-Go.ensures ∙ ap (step_of (result_of c.in_ok-looked.looked)) c.mark_at.ensures) c.in_ok-looked.ensures.counted,
    )

pub returns-in_default-clause-stop : goal.returns-in_default-clause-stop
returns-in_default-clause-stop g c =
    let seen = subst (λ folders. g.F.FolderList.may_find folders c.turns.at (name_of c.args.name.now)
    (result_of c.in_ok-looked.looked)) c.turns.invariant.0 c.in_ok-looked.ensures.possible in
    let stops = c.step.ensures ∙ ap (step_of (result_of c.in_ok-looked.looked)) c.mark_at.ensures in
    walk_ends _ c.args.marks.now c.turns.at (counts_in c.args.folders.now) (counts_in c.turns.folders) _
    (result_of c.in_ok-looked.looked) c.step.result _ c.turns.invariant.1 seen stops c.in_default.not-Go
    (walk_outcome (result_of c.in_ok-looked.looked) _ c.step.result _ stops c.in_default.not-Go
    c.answer_in.ensures.outcome (λ e. ap (option_map reply_of) (c.answer_in.ensures.failed e)))
    c.in_ok-looked.ensures.counted

pub returns-in_default-clause-cause : goal.returns-in_default-clause-cause
returns-in_default-clause-cause g c =
    unanswered c.answer_in.result (result_of c.in_ok-looked.looked) _ c.answer_in.ensures.outcome (λ e.
    fail_counts (result_of c.in_ok-looked.looked) (counts_in c.args.folders.now) (counts_in c.turns.folders) _
    c.turns.at c.turns.invariant.1 e c.in_ok-looked.ensures.counted (omega arith))

pub returns-in_default-clause-within_limit : goal.returns-in_default-clause-within_limit
returns-in_default-clause-within_limit g c = same_limit _ (reply_in (result_of c.in_ok-looked.looked))
    c.answer_in.ensures.reply c.in_ok-looked.ensures.within_limit

pub returns-in_default-clause-lookups : goal.returns-in_default-clause-lookups
returns-in_default-clause-lookups g c =
    let seen = subst (λ folders. g.F.FolderList.may_find folders c.turns.at (name_of c.args.name.now)
    (result_of c.in_ok-looked.looked)) c.turns.invariant.0 c.in_ok-looked.ensures.possible in
    stop_counts _ c.args.marks.now c.turns.at (counts_in c.args.folders.now) (counts_in c.turns.folders) _
    (result_of c.in_ok-looked.looked) c.turns.invariant.1 seen c.in_ok-looked.ensures.counted

pub returns-in_err-looked-clause-lookups : goal.returns-in_err-looked-clause-lookups
returns-in_err-looked-clause-lookups g c =
    subst (λ (counts : Counts). HasCounted (λ k seen. g.F.FolderList.may_find (inner_folders c.args.folders.now) k
    (name_of c.args.name.now) seen) c.args.marks.now (counts_in c.args.folders.now) counts)
    (sym c.in_err-looked.ensures.no_memory) (passed_counts c.turns.invariant.1)
