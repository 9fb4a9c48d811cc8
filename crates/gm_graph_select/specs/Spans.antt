-- Lists of numbers that are parts of one list.
use Rattle.std.specs.Prelude.{◌≤◌, ℕ, List, [], ◌∷◌, map}
use Rattle.std.specs.List.{between}
use Rattle.gm_graph_select.specs.declared.number_lists.Span.{Span}

-- the numbers at a span
abbrev pub part_at : List ℕ → Span → List ℕ
part_at numbers span = between span.start span.end numbers

-- the list at each span
abbrev pub lists_at : List ℕ → List Span → List (List ℕ)
lists_at numbers spans = map (part_at numbers) spans

-- The spans lie between these two places, and each begins at or after the end of the one before.
abbrev pub AreSpansApart : ℕ → List Span → ℕ → Type 0
AreSpansApart from [] to = from ≤ to
AreSpansApart from (span ∷ spans) to = (from ≤ span.start) × (span.start ≤ span.end) × AreSpansApart span.end spans to
