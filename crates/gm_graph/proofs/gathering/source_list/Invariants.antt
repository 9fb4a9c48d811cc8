use Rattle.std.proofs.Common.{◌≡◌, ◌++◌, drop}
use Rattle.gm_graph.specs.Private.Gathering.{sources_from, gathered_sources}
use Rattle.gm_graph.proofs.gathering.source_list.Given as goal

abbrev pub invariant-loop-place : goal.invariant-loop-place
invariant-loop-place l = record {
  at : l.number ≡ l.place-index;
  sources : l.sources.items ++ sources_from l.number (drop l.place-index l.places) ≡ gathered_sources l.places;
}
