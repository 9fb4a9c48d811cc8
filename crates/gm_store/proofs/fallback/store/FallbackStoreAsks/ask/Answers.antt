use Rattle.std.proofs.Common.{◌∙◌, List, Some, None, ap, arith, refl, subst}
use Rattle.std.proofs.lemmas.List.{map_push}
use Rattle.gm_store_parts.specs.Asked.{name_of, reply_of}
use Rattle.gm_store_parts.specs.Steps.{HasCounted, MayStop}
use Rattle.gm_store_parts.specs.declared.fallback.proxy_list.Mark.{Mark}
use Rattle.gm_store_parts.proofs.Counts.{count_rises, counted_rises}
use Rattle.gm_store.specs.Counted.{counts_in, inner_folders}
use Rattle.gm_store.specs.FolderLookups.{MayAnswerFrom, marks_for}
use Rattle.gm_store.proofs.Requesting.{request_answered, request_refused, request_starved}
use Rattle.gm_store.proofs.fallback.store.FallbackStoreAsks.ask.Goals as goal

-- ---- which lookups were counted

pub returns-in_err-outcome-clause-lookups : goal.returns-in_err-outcome-clause-lookups
returns-in_err-outcome-clause-lookups g c =
    let marks = c.marks_for-marks.ensures ∙ ap (marks_for (name_of c.args.name.now)) c.deref.ensures.value in
    subst (λ (ms : List Mark). HasCounted (λ k seen. g.F.FolderList.may_find (inner_folders c.args.self.now.folders) k
    (name_of c.args.name.now) seen) ms (counts_in c.args.self.now.folders) (counts_in c.walk.new.folders)) marks
    c.walk.ensures.lookups

pub returns-in_err-keep-in-Some-clause-lookups : goal.returns-in_err-keep-in-Some-clause-lookups
returns-in_err-keep-in-Some-clause-lookups g c =
    let marks = c.marks_for-marks.ensures ∙ ap (marks_for (name_of c.args.name.now)) c.deref.ensures.value in
    subst (λ (ms : List Mark). HasCounted (λ k seen. g.F.FolderList.may_find (inner_folders c.args.self.now.folders) k
    (name_of c.args.name.now) seen) ms (counts_in c.args.self.now.folders) (counts_in c.walk.new.folders)) marks
    c.walk.ensures.lookups

pub returns-in_ok-keep-in-Some-clause-lookups : goal.returns-in_ok-keep-in-Some-clause-lookups
returns-in_ok-keep-in-Some-clause-lookups g c =
    let marks = c.marks_for-marks.ensures ∙ ap (marks_for (name_of c.args.name.now)) c.deref.ensures.value in
    subst (λ (ms : List Mark). HasCounted (λ k seen. g.F.FolderList.may_find (inner_folders c.args.self.now.folders) k
    (name_of c.args.name.now) seen) ms (counts_in c.args.self.now.folders) (counts_in c.walk.new.folders)) marks
    c.walk.ensures.lookups

pub returns-in-None-clause-lookups : goal.returns-in-None-clause-lookups
returns-in-None-clause-lookups g c =
    let marks = c.marks_for-marks.ensures ∙ ap (marks_for (name_of c.args.name.now)) c.deref.ensures.value in
    subst (λ (ms : List Mark). HasCounted (λ k seen. g.F.FolderList.may_find (inner_folders c.args.self.now.folders) k
    (name_of c.args.name.now) seen) ms (counts_in c.args.self.now.folders) (counts_in c.walk.new.folders)) marks
    c.walk.ensures.lookups

-- ---- memory ran out, so the device's failure is not the cause

pub returns-in_err-outcome-clause-device : goal.returns-in_err-outcome-clause-device
returns-in_err-outcome-clause-device g c = λ e. cc (rw e at c.from_residual.ensures.1)

pub returns-in_err-keep-in-Some-clause-device : goal.returns-in_err-keep-in-Some-clause-device
returns-in_err-keep-in-Some-clause-device g c = λ e. cc (rw e at c.from_residual-in_err-keep-in-Some.ensures.1)

pub returns-in_ok-keep-in-Some-clause-counted : goal.returns-in_ok-keep-in-Some-clause-counted
returns-in_ok-keep-in-Some-clause-counted g c =
    let stop = rw c.in-Some.is at c.in_ok-outcome.ensures.stop in
    let marks = c.marks_for-marks.ensures ∙ ap (marks_for (name_of c.args.name.now)) c.deref.ensures.value in (
      reply_of c.in-Some.answer,
      stop.0,
      subst (λ (ms : List Mark). MayStop (λ k seen. g.F.FolderList.may_find (inner_folders c.args.self.now.folders) k
          (name_of c.args.name.now) seen) ms (Some (reply_of c.in-Some.answer)) stop.0) marks stop.1,
      c.in_ok-keep-in-Some.ensures.ok,
      stop.2,
    )

pub returns-in-None-clause-device : goal.returns-in-None-clause-device
returns-in-None-clause-device g c = λ _.
    let stop = rw c.in-None.is at c.in_ok-outcome.ensures.stop in
    let marks = c.marks_for-marks.ensures ∙ ap (marks_for (name_of c.args.name.now)) c.deref.ensures.value in (
      stop.0,
      subst (λ (ms : List Mark). MayStop (λ k seen.
          g.F.FolderList.may_find (inner_folders c.args.self.now.folders) k (name_of c.args.name.now) seen) ms None
          stop.0) marks stop.1,
      stop.2,
    )

-- ---- what the request did

pub returns-in_ok-keep-in-Some-clause-request : goal.returns-in_ok-keep-in-Some-clause-request
returns-in_ok-keep-in-Some-clause-request g c =
    let stop = rw c.in-Some.is at c.in_ok-outcome.ensures.stop in
    let marks = c.marks_for-marks.ensures ∙ ap (marks_for (name_of c.args.name.now)) c.deref.ensures.value in
    let small = rw c.in-Some.is at c.in_ok-outcome.ensures.within_limit in
    request_answered _ _ _ _ (name_of c.args.name.now) (λ n r is.
    subst (λ folders. MayAnswerFrom (g.F.FolderList.may_find folders) c.args.self.now.marks.items n r)
    c.walk.ensures.folders is) (count_rises _ _ _ stop.2 (omega arith)) (reply_of c.in-Some.answer) (
      stop.0,
      subst (λ (ms : List Mark). MayStop (λ k seen.
          g.F.FolderList.may_find (inner_folders c.args.self.now.folders) k (name_of c.args.name.now) seen) ms
          (Some (reply_of c.in-Some.answer)) stop.0) marks stop.1,
    )
    small c.in_ok-keep-in-Some.ensures.ok refl

pub returns-in-None-clause-request : goal.returns-in-None-clause-request
returns-in-None-clause-request g c =
    let stop = rw c.in-None.is at c.in_ok-outcome.ensures.stop in
    let marks = c.marks_for-marks.ensures ∙ ap (marks_for (name_of c.args.name.now)) c.deref.ensures.value in
    request_refused _ _ _ _ (name_of c.args.name.now) (λ n r is.
    subst (λ folders. MayAnswerFrom (g.F.FolderList.may_find folders) c.args.self.now.marks.items n r)
    c.walk.ensures.folders is) (count_rises _ _ _ stop.2 (omega arith)) (
      stop.0,
      subst (λ (ms : List Mark). MayStop (λ k seen.
          g.F.FolderList.may_find (inner_folders c.args.self.now.folders) k (name_of c.args.name.now) seen) ms None
          stop.0) marks stop.1,
    )
    refl
    (rw (c.with-self.ensures, map_push) refl) (rw c.in-None.is at c.in_ok-outcome.ensures.cause)

pub returns-in_err-outcome-clause-request : goal.returns-in_err-outcome-clause-request
returns-in_err-outcome-clause-request g c =
    request_starved _ _ _ _ (name_of c.args.name.now) (λ n r is.
    subst (λ folders. MayAnswerFrom (g.F.FolderList.may_find folders) c.args.self.now.marks.items n r)
    c.walk.ensures.folders is) (counted_rises _ _ _ _ c.walk.ensures.lookups (omega arith))
    c.from_residual.result c.from_residual.ensures.1 refl refl

pub returns-in_err-keep-in-Some-clause-request : goal.returns-in_err-keep-in-Some-clause-request
returns-in_err-keep-in-Some-clause-request g c =
    let stop = c.in_ok-outcome.ensures.stop in
    request_starved _ _ _ _ (name_of c.args.name.now) (λ n r is.
    subst (λ folders. MayAnswerFrom (g.F.FolderList.may_find folders) c.args.self.now.marks.items n r)
    c.walk.ensures.folders is) (count_rises _ _ _ stop.2 (omega arith))
    c.from_residual-in_err-keep-in-Some.result c.from_residual-in_err-keep-in-Some.ensures.1 c.in_err-keep-in-Some.ensures.err refl
