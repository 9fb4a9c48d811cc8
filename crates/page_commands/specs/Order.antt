-- A copy from crates/gm_graph_select/specs/Order.antt, which tools/check/headline.py writes.
use Rattle.std.specs.Prelude.{◌≡◌, List, AllPairs}
use Rattle.std.specs.declared.cmp.Ordering.{Ordering}
use Rattle.std.specs.declared.cmp.Ordering.TheVariants.{Less}

-- Each element is less than every later one.
abbrev pub IsAscending : {T : Type 0} → (T → T → Ordering) → List T → Type 0
IsAscending cmp xs = AllPairs (λ a b. cmp a b ≡ Less) xs
