-- What a sink took of a text.
use Rattle.std.specs.Prelude.{◌≡◌, ◌<◌, ◌≤◌, ◌-◌, ℕ, List, Option, Some, None, Result, Ok, Err, length, take, ⊤}
use Rattle.std.specs.Io.KnownBytes.{Appends}
use Rattle.gm_store_parts.specs.Faults.{HasCountedFailure}
use Rattle.gm_store_parts.specs.Taken.{AppendsSome, SinkState}

-- a text of this length leaves this room, if room is known
abbrev pub FitsIn : Option ℕ → Option ℕ → ℕ → Type 0
FitsIn None left size = left ≡ None
FitsIn (Some room) left size = (size ≤ room) × (left ≡ Some (room - size))

-- the sink took the whole text, and its count of faults didn't fall
pub record TookAll (old new : SinkState) (text : List ℕ) : Type 0 where
  pub bytes : Appends old.taken new.taken text
  pub room : FitsIn old.room new.room (length text)
  pub later : old.faults ≤ new.faults

-- if room is known, the text does not fit, and as much as fits was taken
abbrev pub Overflows : Option ℕ → Option (List ℕ) → Option (List ℕ) → List ℕ → Type 0
Overflows None old new text = ⊤
Overflows (Some room) old new text = (room < length text) × Appends old new (take room text)

-- the sink failed, and took a prefix of the text
pub record TookPrefix (old new : SinkState) (text : List ℕ) : Type 0 where
  pub bytes : AppendsSome old.taken new.taken text
  pub room : Overflows old.room old.taken new.taken text
  pub cause : HasCountedFailure old.faults new.faults

-- the sink took the whole text; or it failed, and took a prefix
abbrev pub Took : {E : Type 0} → SinkState → SinkState → List ℕ → Result (Unit {0}) E → Type 0
Took old new text (Ok u) = TookAll old new text
Took old new text (Err e) = TookPrefix old new text
