-- The result of looking up a file with given bytes: the bytes, or that they are more than 16 MiB.
use Rattle.std.specs.Prelude.{ℕ, List, length, nat_le, if◌then◌else◌}
use Rattle.gm_store_parts.specs.Steps.{Seen, found, too_long}

abbrev pub result_for_bytes : List ℕ → Seen
result_for_bytes bytes = if nat_le (length bytes) 16777216 then found bytes else too_long
