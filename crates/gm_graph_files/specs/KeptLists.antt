-- The own lists of files, of which those of eight or more are kept once.
use Rattle.std.specs.Prelude.{◌≡◌, ◌≤◌, [], ℕ, List, Option, Some, cond, length, slice_get}
use Rattle.std.specs.Option.{is_some}
use Rattle.gm_name_table.specs.Listed.{part}
use Rattle.gm_graph_files.specs.declared.summary.Kept.{Kept}
use Rattle.gm_graph_files.specs.declared.summary.Kept.TheVariants.{Valid}

-- the numbers of the own list of a file: none if it shares the list of an earlier one, or has a fault
abbrev pub own_list : List ℕ → Option Kept → List ℕ
own_list numbers (Some (Valid summary)) =
    cond (is_some summary.list.same_as) [] (part summary.list.span.start summary.list.span.end numbers)
own_list numbers kept = []

-- those of the file at each place
abbrev pub own_lists : List ℕ → List Kept → ℕ → List ℕ
own_lists numbers files place = own_list numbers (slice_get files place)

-- No list of eight or more is at two places.
abbrev pub AreKeptOnce : (ℕ → List ℕ) → Type 0
AreKeptOnce lists = (one other : ℕ) → 8 ≤ length (lists one) → lists one ≡ lists other → one ≡ other
