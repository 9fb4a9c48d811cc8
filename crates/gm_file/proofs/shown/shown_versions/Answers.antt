use Rattle.std.proofs.Common.{◌∙◌, ◌++◌, ◌∷◌, [], Bor, List, ap, option_map, sym, ℕ, map}
use Rattle.std.proofs.lemmas.List.{map-append}
use Rattle.gm_file.specs.Views.{interval_views}
use Rattle.gm_file.specs.Private.Swept.{AreAllSwept, ends_view}
use Rattle.gm_file.proofs.Sweeping.{ready_here, ready_rest, shown_more, shown_same, sorted_rest}
use Rattle.gm_file.proofs.shown.shown_versions.Goals as goal
use Rattle.gm_file.proofs.shown.shown_versions.Goals.{then-not-is_reached+in_ok-push, else-not-is_reached}

pub advance-sweep-requires : goal.advance-sweep-requires
advance-sweep-requires c =
    rw c.as_slice.ensures.value
    (ready_here (map ends_view c.in_ok-ends.ends.items) c.args.versions.now c.loop-version.version-index c.version-item.result c.loop-version.sweep.next _
    c.loop-version-test.true c.version-item.is c.loop-version.invariant.ready)

pub loop-version-preserved : goal.loop-version-preserved
loop-version-preserved c =
    let ps = map ends_view c.in_ok-ends.ends.items in
    let is = interval_views c.args.intervals.now in
    let vs = c.args.versions.now in
    let i = c.loop-version.version-index in
    let v = c.version-item.result in
    let n = c.advance-sweep.result.next in
    let reach = option_map (λ (reach : Bor (List ℕ)). reach.now) c.advance-sweep.result.reach in
    let all : AreAllSwept ps v n reach = rw c.as_slice.ensures.value at c.advance-sweep.ensures in
    let ascending = sorted_rest vs i v c.loop-version-test.true c.version-item.is c.loop-version.invariant.ascending in
    let ready = ready_rest ps vs i v n reach c.loop-version-test.true c.version-item.is c.loop-version.invariant.ascending all.swept in
    elim c.if-not-is_reached.branch [
      | then-not-is_reached+in_ok-push w ↦ record {
        sifted = rw (w.shown-is, w.in_ok-push.ensures.items) (map-append (λ (version : Bor (List ℕ)). version.now) c.loop-version.shown.items _
            ∙ ap (λ (shown : List (List ℕ)). shown ++ v ∷ []) c.loop-version.invariant.sifted
            ∙ sym (shown_more ps is c.in_ok-ends.ensures vs i v c.loop-version-test.true c.version-item.is n reach all
            c.is_reached.result c.is_reached.ensures w.if-not-is_reached.true));
        ready = ready;
        ascending = ascending;
      }
      | else-not-is_reached w ↦ record {
        sifted = rw w.shown-is (c.loop-version.invariant.sifted
            ∙ sym (shown_same ps is c.in_ok-ends.ensures vs i v c.loop-version-test.true c.version-item.is n reach all
            c.is_reached.result c.is_reached.ensures w.if-not-is_reached.false));
        ready = ready;
        ascending = ascending;
      }
    ]
