-- The order of the lines of a table.
use Rattle.std.specs.Prelude.{ℕ, List}
use Rattle.std.specs.Cmp.Lexicographic.{slice_cmp}
use Rattle.std.specs.List.Sorted.{IsSortedBy}
use Rattle.std.specs.Ordering.{is_lt, nat_cmp, ordering_then}
use Rattle.std.specs.declared.cmp.Ordering.{Ordering}
use Rattle.gm_store_sums.specs.declared.sum_table.SumLine.{SumLine}

-- path, version and hash of a line
abbrev pub triple : SumLine → List ℕ × List ℕ × List ℕ
triple line = (line.path.now, line.version.now, line.hash.now)

-- the order of lines by path, version and hash, and the order by path and version alone, in which the lines for
-- one file are adjacent
abbrev pub line_cmp : List ℕ × List ℕ × List ℕ → List ℕ × List ℕ × List ℕ → Ordering
line_cmp x y = ordering_then (slice_cmp nat_cmp x.0 y.0)
    (ordering_then (slice_cmp nat_cmp x.1 y.1) (slice_cmp nat_cmp x.2 y.2))

-- the lines are in ascending order
abbrev pub AreInOrder : List SumLine → Type 0
AreInOrder lines = IsSortedBy (λ x y. is_lt (line_cmp (triple x) (triple y))) lines
