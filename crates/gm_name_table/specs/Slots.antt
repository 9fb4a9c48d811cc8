-- Places in buckets of slots, under their tags.
use Rattle.std.specs.Prelude.{◌&&◌, ℕ, Bool, List, [], ◌∷◌, Option, None, cond, nat_eq}
use Rattle.std.specs.Option.{is_some}
use Rattle.gm_name_table.specs.Buckets.{bucket_of, value_in}
use Rattle.gm_name_table.specs.OptionalPlaces.{place_in}
use Rattle.gm_name_table.specs.declared.bucket.Bucket.{Bucket}
use Rattle.gm_name_table.specs.declared.bucket.Slot.{Slot}

-- whether a slot has a place under this tag
abbrev pub has_tag : Slot → ℕ → Bool
has_tag slot tag = nat_eq slot.tag tag && is_some (place_in slot.place)

-- the place under a tag, in the first slot that has one
abbrev pub place_in_slots : List Slot → ℕ → Option ℕ
place_in_slots [] tag = None
place_in_slots (slot ∷ slots) tag = cond (has_tag slot tag) (place_in slot.place) (place_in_slots slots tag)

-- the place in a bucket under a tag
abbrev pub place_in_bucket : Bucket → ℕ → Option ℕ
place_in_bucket bucket tag = place_in_slots bucket.slots tag

-- the place in the buckets under a tag: that in the one that it chooses
abbrev pub place_in_buckets : List Bucket → ℕ → Option ℕ
place_in_buckets buckets tag = value_in place_in_bucket bucket_of buckets tag
