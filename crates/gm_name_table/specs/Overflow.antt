-- The places of tags that found their bucket full.
use Rattle.std.specs.Prelude.{ℕ, Option}
use Rattle.std.specs.Ordering.{nat_cmp}
use Rattle.std.specs.BTreeMap as map
use Rattle.gm_name_table.specs.declared.overflow.Overflow.{Overflow}

-- the place under a tag
abbrev pub place_over : Overflow → ℕ → Option ℕ
place_over overflow tag = map.get nat_cmp overflow.places tag
