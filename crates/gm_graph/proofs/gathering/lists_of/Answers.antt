use Rattle.std.proofs.Common.{arith, length}
use Rattle.gm_graph_files.specs.Places.{place_limit}
use Rattle.gm_graph_files.proofs.Ordered.{order_longer, own_spans}
use Rattle.gm_graph.proofs.gathering.lists_of.Goals as goal

pub span_list-requires : goal.span_list-requires
span_list-requires c =
    let parts = c.args.parts.now in
    rw c.deref.ensures.value
    (order_longer parts.first (own_spans parts.files.items) (length parts.numbers.items) place_limit (omega arith) parts.in_order)
