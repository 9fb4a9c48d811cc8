-- What the code says beside specs/Spans.antt.
use Rattle.std.specs.Prelude.{◌≡◌, ℕ, List, [], ◌∷◌, drop, length, take}
use Rattle.gm_graph_select.specs.declared.number_lists.Span.{Span}
use Rattle.gm_graph_select.specs.Private.Adjacency.{IsByRanks}
use Rattle.gm_graph_select.specs.Spans.{AreSpansApart, part_at}

-- The numbers at the new span are the ranks of those at the old one, which has the new one in it, and no others
-- changed.
pub record IsPartByRanks (ranks old : List ℕ) (span : Span) (new : List ℕ) (left : Span) : Type 0 where
  pub start : left.start ≡ span.start
  pub inside : AreSpansApart span.start (left ∷ []) span.end
  pub is : IsByRanks ranks (part_at old span) (part_at new left)
  pub size : length new ≡ length old
  pub before : take span.start new ≡ take span.start old
  pub after : drop span.end new ≡ drop span.end old
