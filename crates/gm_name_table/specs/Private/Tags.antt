-- Slots and places of tags while an index is filled.
use Rattle.std.specs.Prelude.{◌≡◌, ◌<◌, ◌/◌, ℕ, List, Option, length, None, Some, cond, nat_eq, slice_get}
use Rattle.gm_name_table.specs.Buckets.{value_at, bucket_of}
use Rattle.gm_name_table.specs.OptionalPlaces.{no_place, place_in}
use Rattle.gm_name_table.specs.declared.bucket.Slot.{Slot}
use Rattle.gm_name_table.specs.declared.tag_index.TagIndex.{TagIndex}
use Rattle.gm_name_table.specs.TagIndex.{place_under}

-- At the numbers that choose it among so many, each part holds what the bucket that it is half of holds.
abbrev pub AreParts : {B : Type 0} → (B → ℕ → Option ℕ) → (ℕ → ℕ → ℕ) → List B → ℕ → List B → Type 0
AreParts holds choice buckets many parts = (at number : ℕ) → at < length parts → choice number many ≡ at
    → value_at holds parts at number ≡ value_at holds buckets (at / 2) number

-- a slot, emptied unless its tag chooses this bucket among so many
abbrev pub kept_in : ℕ → ℕ → Slot → Slot
kept_in bucket many slot =
    cond (nat_eq (bucket_of slot.tag many) bucket) slot (record { tag = slot.tag; place = no_place })

-- The slot at a place is empty.
abbrev pub IsEmptyAt : List Slot → ℕ → Type 0
IsEmptyAt slots at = (slot : Slot) × (slice_get slots at ≡ Some slot) × (place_in slot.place ≡ None)

-- Each place is below a number, and no two tags have the same.
pub record ArePlacesBelow (index : TagIndex) (many : ℕ) : Type 0 where
  pub below : (tag place : ℕ) → place_under index tag ≡ Some place → place < many
  pub apart : (tag other place : ℕ) → place_under index tag ≡ Some place → place_under index other ≡ Some place
      → tag ≡ other
