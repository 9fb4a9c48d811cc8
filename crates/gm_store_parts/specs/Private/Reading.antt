-- What one read adds, and what comes of a file that was opened and read.
use Rattle.std.specs.Prelude.{◌≡◌, ℕ, Result, Ok, Err, ◌<◌, ◌≤◌, List, ◌++◌, length, Option}
use Rattle.std.specs.Global.{Vec}
use Rattle.gm_store_parts.specs.declared.reading.ReadFault.{ReadFault}
use Rattle.gm_store_parts.specs.declared.reading.ReadFault.TheVariants.{NoMemory, Device}
use Rattle.gm_store_parts.specs.Found.{result_for_bytes}
use Rattle.gm_store_parts.specs.Steps.{Seen, failed}
use Rattle.std.specs.Io.KnownBytes.{Consumes, IsAtEnd}

-- the result if a file was opened and read like this: if memory ran out, there is none
abbrev pub IsReadLookup : Result (Vec ℕ) ReadFault → Seen → Type 0
IsReadLookup (Ok bytes) seen = seen ≡ result_for_bytes bytes.items
IsReadLookup (Err Device) seen = seen ≡ failed
IsReadLookup (Err NoMemory) seen = ⊥

-- `count` bytes of the reader, at most `room`, were appended. If there was room and no byte came, the reader is at
-- its end.
pub record AddsPiece (old new : Option (List ℕ)) (before after : List ℕ) (room count : ℕ) : Type 0 where
  pub piece : List ℕ
  pub counted : length piece ≡ count
  pub within : count ≤ room
  pub added : after ≡ before ++ piece
  pub given : Consumes old new piece
  pub ended : count ≡ 0 → 0 < room → IsAtEnd new
