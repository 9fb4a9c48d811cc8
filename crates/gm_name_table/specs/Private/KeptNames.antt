-- Names under their tags, and what a new one changes.
use Rattle.std.specs.Prelude.{◌≡◌, ℕ, Option, Some, cond, nat_eq, slice_get}
use Rattle.std.specs.Option.{option_and_then}
use Rattle.gm_name_table.specs.TagIndex.{place_under}
use Rattle.gm_name_table.specs.declared.kept_names.KeptNames.{KeptNames}

-- the name under a tag: that at the tag's place
abbrev pub name_under : {T : Type 0} → KeptNames T → ℕ → Option T
name_under kept tag = option_and_then (λ place. slice_get kept.names.items place) (place_under kept.places tag)

-- The name is kept under the tag, and nothing else was changed.
abbrev pub Keeps : {T : Type 0} → KeptNames T → KeptNames T → ℕ → T → Type 0
Keeps old new tag name = (t : ℕ) → name_under new t ≡ cond (nat_eq tag t) (Some name) (name_under old t)
