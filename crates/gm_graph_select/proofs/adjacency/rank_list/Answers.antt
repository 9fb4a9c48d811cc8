use Rattle.gm_graph_select.proofs.adjacency.rank_list.Goals as goal

pub returns-clause-ranks : goal.returns-clause-ranks
returns-clause-ranks c = record {
  ascending = c.put_in_order.ensures.ascending;
  members = rw⁻¹ c.put_ranks.ensures c.put_in_order.ensures.members;
}
