-- Places under tags: what an index holds at a tag, and when two hold the same.
use Rattle.std.specs.Prelude.{◌≡◌, ℕ, Option}
use Rattle.std.specs.Option.{option_or}
use Rattle.gm_name_table.specs.Overflow.{place_over}
use Rattle.gm_name_table.specs.Slots.{place_in_buckets}
use Rattle.gm_name_table.specs.declared.tag_index.TagIndex.{TagIndex}

-- the place under a tag: that in the buckets, or if there is none, that among those which found their bucket full
abbrev pub place_under : TagIndex → ℕ → Option ℕ
place_under index tag = option_or (place_in_buckets index.buckets.items tag) (place_over index.overflow tag)

-- Nothing was changed.
abbrev pub HasSame : TagIndex → TagIndex → Type 0
HasSame old new = (tag : ℕ) → place_under new tag ≡ place_under old tag
