use Rattle.std.proofs.Common.{◌∙◌, ◌+◌, ap, append-nil, sym}
use Rattle.std.proofs.lemmas.List.{drop_all}
use Rattle.gm_graph.proofs.Gathered.{source_more}
use Rattle.gm_graph.proofs.gathering.source_list.Goals as goal

pub loop-place-preserved : goal.loop-place-preserved
loop-place-preserved c =
    let held = c.loop-place.invariant in
    record {
      at = ap (λ n. n + 1) held.at;
      sources = source_more c.loop-place.number c.loop-place.place-index c.args.places.now c.loop-place.sources.items
          c.loop-place-test.true c.in_ok-push_source.ensures held.sources;
    }

pub returns : goal.returns
returns c =
    sym (append-nil c.loop-place.sources.items)
    ∙ (rw (drop_all c.loop-place.place-index c.args.places.now c.loop-place-test.false) at c.loop-place.invariant.sources)
