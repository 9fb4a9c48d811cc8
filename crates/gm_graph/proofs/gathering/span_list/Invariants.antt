use Rattle.std.proofs.Common.{◌≡◌, ◌++◌, drop}
use Rattle.gm_graph.specs.Private.Gathering.{spans_from, spans_of}
use Rattle.gm_graph_files.specs.Places.{place_limit}
use Rattle.gm_graph_files.specs.KeptFiles.{AreListsInOrder}
use Rattle.gm_graph_files.proofs.Ordered.{own_spans}
use Rattle.gm_graph.proofs.gathering.span_list.Given as goal

abbrev pub invariant-loop-kept : goal.invariant-loop-kept
invariant-loop-kept l = record {
  order : AreListsInOrder l.end (drop l.kept-index l.files) place_limit;
  spans : l.spans.items ++ spans_from l.end (own_spans (drop l.kept-index l.files)) ≡ spans_of l.fn.first l.files;
}
