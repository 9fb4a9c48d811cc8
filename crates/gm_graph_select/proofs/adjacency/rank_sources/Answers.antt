use Rattle.std.proofs.Common.{◌<◌, None, arith, get_or, length}
use Rattle.std.proofs.lemmas.List.{get_or_default}
use Rattle.std.proofs.lemmas.List.Edits.{map_over_more}
use Rattle.gm_graph_select.specs.declared.adjacency.Source.{Source}
use Rattle.gm_graph_select.specs.Private.Adjacency.{source_by_ranks}
use Rattle.gm_graph_select.proofs.adjacency.rank_sources.Goals as goal

pub loop-one-preserved : goal.loop-one-preserved
loop-one-preserved c =
    let ranks = c.args.ranks.now in
    let old = c.args.sources.now in
    let now = c.loop-one.sources in
    let i = c.loop-one.one-index in
    let none : Source = record { from = None; list = 0 } in
    let inside : i < length old = omega arith in
    rw c.rank_of-one.ensures
    (map_over_more (λ (one : Source). source_by_ranks ranks one) old now i (get_or now i none) inside c.loop-one.invariant
    (get_or_default now i none (get_or now i none) (omega arith)))
