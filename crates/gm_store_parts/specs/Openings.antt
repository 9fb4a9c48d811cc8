-- What may come of opening a file, and the results of a lookup that opens it.
use Rattle.std.specs.Prelude.{◌≡◌, ◌≢◌, ◌⊎◌, ℕ, Bool, List, Option, Some, None, Result, Ok, Err, IfSome, take, true}
use Rattle.std.specs.Global.{Vec}
use Rattle.std.specs.IoError.{error_kind}
use Rattle.std.specs.declared.io.Error.{Error}
use Rattle.std.specs.declared.io.ErrorKind.{ErrorKind}
use Rattle.std.specs.declared.io.ErrorKind.TheVariants.{NotFound, OutOfMemory}
use Rattle.gm_store_parts.specs.declared.reading.ReadFault.{ReadFault}
use Rattle.gm_store_parts.specs.declared.reading.ReadFault.TheVariants.{NoMemory, Device}
use Rattle.gm_store_parts.specs.Found.{result_for_bytes}
use Rattle.gm_store_parts.specs.Pieces.{IsReadingFault}
use Rattle.gm_store_parts.specs.Steps.{Seen, absent, failed}

-- a file was opened, whose bytes are these if its reader reports them, and of which a read may fail if the flag says
-- so; or none was, for an error of this kind
pub data Opening : Type 0 where
  opened : Option (List ℕ) → Bool → Opening
  refused : ErrorKind → Opening

-- what came of opening a file, given the bytes that a reader reports, and whether a read of it may fail
abbrev pub opening_of : {File : Type 0} → (File → Option (List ℕ)) → (File → Bool) → Result File Error → Opening
opening_of remaining may_fail (Ok file) = opened (remaining file) (may_fail file)
opening_of remaining may_fail (Err error) = refused (error_kind error)

-- The result if no file was opened: absent if the system found none of that name, and otherwise a failure. If the
-- system ran out of memory, there is no result.
pub record IsRefusedLookup (kind : ErrorKind) (seen : Seen) : Type 0 where
  pub not_found : kind ≡ NotFound → seen ≡ absent
  pub other : kind ≢ NotFound → seen ≡ failed
  pub memory : kind ≢ OutOfMemory

-- The results that a lookup may have. An opened file is never absent: the result is its bytes, or that they are too
-- many, or a failure if a read of it may fail.
abbrev pub MayShow : Opening → Seen → Type 0
MayShow (opened (Some content) may_fail) seen =
    (seen ≡ result_for_bytes content) ⊎ ((may_fail ≡ true) × (seen ≡ failed))
MayShow (opened None may_fail) seen =
    ((content : List ℕ) × (seen ≡ result_for_bytes content)) ⊎ ((may_fail ≡ true) × (seen ≡ failed))
MayShow (refused kind) seen = IsRefusedLookup kind seen

-- A lookup may run out of memory while it reads an opened file. If none was opened, the system has done so.
abbrev pub MayLackMemory : Opening → Type 0
MayLackMemory (opened known may_fail) = Unit {0}
MayLackMemory (refused kind) = kind ≡ OutOfMemory

-- one of them, given what may come of opening the file
abbrev pub MayLookUp : (Opening → Type 0) → Seen → Type 0
MayLookUp may_open seen = (opening : Opening) × may_open opening × MayShow opening seen

-- The results that reading a file up to one byte more than 16 MiB may have. A file that was opened can't be read only
-- if a read of it may fail, or memory ran out. One that was not opened is not read, and that memory ran out is told
-- apart from other errors.
abbrev pub IsReadFrom : Opening → Result (Vec ℕ) ReadFault → Type 0
IsReadFrom (opened known may_fail) (Ok bytes) = IfSome known (λ all. bytes.items ≡ take 16777217 all)
IsReadFrom (opened known may_fail) (Err fault) = IsReadingFault may_fail fault
IsReadFrom (refused kind) (Ok bytes) = ⊥
IsReadFrom (refused kind) (Err NoMemory) = kind ≡ OutOfMemory
IsReadFrom (refused kind) (Err Device) = kind ≢ OutOfMemory

-- one of them, given what may come of opening the file
abbrev pub MayRead : (Opening → Type 0) → Result (Vec ℕ) ReadFault → Type 0
MayRead may_open read = (opening : Opening) × may_open opening × IsReadFrom opening read
