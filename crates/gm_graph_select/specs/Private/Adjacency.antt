-- Edges by the ranks of their vertices, and as a list of pairs of numbers.
use Rattle.std.specs.Prelude.{ℕ, List, map, slice_index}
use Rattle.std.specs.Option.{option_map}
use Rattle.std.specs.Ordering.{nat_cmp}
use Rattle.gm_graph_select.specs.declared.adjacency.Source.{Source}
use Rattle.gm_graph_select.specs.Order.{HaveSame, IsAscending}
use Rattle.std.specs.List.{flat_map}
use Rattle.gm_graph_select.specs.Adjacency.{StepEdges}
use Rattle.gm_graph_select.specs.EdgeList.{NumberedEdge}

-- ---- ranks

-- The new list has ranks in the places of the old one's numbers, in ascending order.
pub record IsByRanks (ranks old new : List ℕ) : Type 0 where
  pub ascending : IsAscending nat_cmp new
  pub members : HaveSame (map (slice_index ranks) old) new

-- the source, with the rank of its step in the place of the number
abbrev pub source_by_ranks : List ℕ → Source → Source
source_by_ranks ranks one = record { from = option_map (slice_index ranks) one.from; list = one.list }

-- the edges that leave any of these steps
abbrev pub numbered_edges : List StepEdges → List NumberedEdge
numbered_edges all = flat_map (λ one. map (λ number. (one.from, number)) one.to) all
