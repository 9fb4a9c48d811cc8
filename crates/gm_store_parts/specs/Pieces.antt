-- The effect of one read of a reader, and why reading may fail.
use Rattle.std.specs.Prelude.{◌≡◌, Bool, true}
use Rattle.gm_store_parts.specs.declared.reading.ReadFault.{ReadFault}
use Rattle.gm_store_parts.specs.declared.reading.ReadFault.TheVariants.{NoMemory, Device}

-- a fault that reading may have: memory ran out, or a read failed, if reads of the reader may fail
abbrev pub IsReadingFault : Bool → ReadFault → Type 0
IsReadingFault may_fail NoMemory = Unit {0}
IsReadingFault may_fail Device = may_fail ≡ true
