-- Places in lists, or none, as numbers of 32 bits.
use Rattle.std.specs.Prelude.{ℕ, Option, None, Some, if◌then◌else◌, nat_eq}
use Rattle.gm_name_table.specs.declared.place.OptionalPlace.{OptionalPlace}

-- the greatest number stands for no place
abbrev pub no_place : OptionalPlace
no_place = record { number = 4294967295 }

-- every other number stands for itself
abbrev pub place_in : OptionalPlace → Option ℕ
place_in place = if nat_eq place.number 4294967295 then None else Some place.number
