-- The names of the files that are kept, each with its place.
use Rattle.std.specs.Prelude.{ℕ, List, Option, map, reverse}
use Rattle.std.specs.Map.{lookup}
use Rattle.gm_store_parts.specs.Asked.{Name, name_of, same_name}
use Rattle.gm_store_parts.specs.declared.files.FileName.{FileName}
use Rattle.gm_store_parts.specs.declared.files.history.History.{History}

-- the last one first
abbrev pub places_named : History FileName ℕ → List (Name × ℕ)
places_named history = map (λ one. (name_of one.0, one.1)) (reverse history.items)

-- the place of a name, if it is one of these
abbrev pub place_among : List (Name × ℕ) → Name → Option ℕ
place_among entries name = lookup (same_name name) entries
