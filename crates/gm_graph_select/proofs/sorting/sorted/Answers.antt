use Rattle.std.proofs.lemmas.List.Filters.{dedup_is}
use Rattle.gm_graph_select.proofs.Sorts.{ascending, members}
use Rattle.gm_graph_select.proofs.sorting.sorted.Goals as goal

pub returns-clause-ascending : goal.returns-clause-ascending
returns-clause-ascending g c =
    rw (dedup_is g.T.PartialEq.eq c.sort_unstable.new.self.items c.dedup.new.self.items c.dedup.ensures.filtered)
    (ascending g.met.T.Ord.total g.met.T.Ord.matches_eq c.sort_unstable.new.self.items c.sort_unstable.ensures.sorted)

pub returns-clause-members : goal.returns-clause-members
returns-clause-members g c =
    rw (dedup_is g.T.PartialEq.eq c.sort_unstable.new.self.items c.dedup.new.self.items c.dedup.ensures.filtered)
    (members g.met.T.Ord.total g.met.T.Ord.matches_eq g.met.T.Eq.laws c.args.items.items c.sort_unstable.new.self.items
    c.requires c.sort_unstable.ensures.permutation)
