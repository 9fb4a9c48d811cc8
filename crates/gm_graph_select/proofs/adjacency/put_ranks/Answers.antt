use Rattle.std.proofs.Common.{◌<◌, ℕ, arith, get_or, length, slice_index}
use Rattle.std.proofs.lemmas.List.{get_or_default}
use Rattle.std.proofs.lemmas.List.Edits.{map_over_more}
use Rattle.gm_graph_select.proofs.adjacency.put_ranks.Goals as goal

pub loop-number-preserved : goal.loop-number-preserved
loop-number-preserved c =
    let ranks = c.args.ranks.now in
    let old = c.args.numbers.now in
    let i = c.loop-number.number-index in
    let inside : i < length old = omega arith in
    map_over_more (λ (n : ℕ). slice_index ranks n) old c.loop-number.numbers i (get_or c.loop-number.numbers i 0) inside c.loop-number.invariant
    (get_or_default c.loop-number.numbers i 0 (get_or c.loop-number.numbers i 0) (omega arith))
