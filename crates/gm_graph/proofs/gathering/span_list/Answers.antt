use Rattle.std.proofs.Common.{◌+◌, arith, drop}
use Rattle.gm_graph.proofs.Gathered.{from_place, span_more, order_ends, order_first, order_rest}
use Rattle.gm_graph_files.specs.Places.{place_limit}
use Rattle.gm_graph_files.proofs.Ordered.{own_spans}
use Rattle.gm_graph_files.specs.Summaries.{own_span}
use Rattle.gm_graph.proofs.gathering.span_list.Goals as goal

pub overflow_cast-end : goal.overflow_cast-end
overflow_cast-end c = let ends = order_ends c.args.first (own_spans c.args.files.now) place_limit c.requires in omega arith

pub span_after-span-requires : goal.span_after-span-requires
span_after-span-requires c =
    let files = c.args.files.now in
    let kept = c.kept-item.result in
    let k = c.loop-kept.kept-index in
    rw c.own_span.ensures
    (order_first c.loop-kept.end (own_span kept) (own_spans (drop (k + 1) files)) place_limit
    (rw (from_place files k kept c.loop-kept-test.true c.kept-item.is) at c.loop-kept.invariant.order))

pub loop-kept-preserved : goal.loop-kept-preserved
loop-kept-preserved c =
    let files = c.args.files.now in
    let kept = c.kept-item.result in
    let k = c.loop-kept.kept-index in
    let held = c.loop-kept.invariant in
    let rest = own_spans (drop (k + 1) files) in
    let front = from_place files k kept c.loop-kept-test.true c.kept-item.is in
    let is = rw c.own_span.ensures at c.span_after-span.ensures in
    record {
      order = rw is (order_rest c.loop-kept.end (own_span kept) rest place_limit (rw front at held.order));
      spans = span_more c.loop-kept.end (own_span kept) rest c.loop-kept.spans.items is c.in_ok-push-2.ensures.items (rw front at held.spans);
    }
