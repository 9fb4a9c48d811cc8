use Rattle.std.proofs.Common.{arith}
use Rattle.std.proofs.lemmas.List.Edits.{length-between}
use Rattle.gm_graph_select.proofs.Parts.{part_ranked}
use Rattle.gm_graph_select.proofs.number_lists.rank_part.Goals as goal

pub returns : goal.returns
returns c =
    let old = c.args.numbers.now in
    let span = c.args.span in
    let size = length-between old span.start span.end c.requires.within.2 in
    let part = c.rank_list-count.new.numbers in
    part_ranked c.args.ranks.now old span part c.rank_list-count.result c.requires.within
    (omega (arith, size, c.rank_list-count.auto.numbers)) (omega (arith, size, c.rank_list-count.ensures.count)) c.rank_list-count.ensures.ranks
