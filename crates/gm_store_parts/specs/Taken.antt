-- What is known of a sink, and the effects of writing a piece to it.
use Rattle.std.specs.Prelude.{◌≡◌, ◌<◌, ◌≤◌, ◌-◌, ℕ, List, length, take, Option, Some, None, Result, MatchResult, IsErr, min}
use Rattle.std.specs.Io.KnownBytes.{Appends}
use Rattle.gm_store_parts.specs.Faults.{HasCountedFailure}

-- what is known of a sink: the bytes that it took and how many more it can take, if it reports them, and how
-- often it failed
pub record SinkState : Type 0 where
  pub taken : Option (List ℕ)
  pub room : Option ℕ
  pub faults : ℕ

-- the first `count` bytes of the piece were appended to the known bytes, at least one unless the piece is empty
pub record TakesPrefix (old new : Option (List ℕ)) (piece : List ℕ) (count : ℕ) : Type 0 where
  pub within : count ≤ length piece
  pub some : 0 < length piece → 0 < count
  pub bytes : Appends old new (take count piece)

-- the count of faults doesn't fall, and it rises with each failure unless it is at its maximum already
pub record HasCause {T E : Type 0} (old new : ℕ) (result : Result T E) : Type 0 where
  pub later : old ≤ new
  pub cause : IsErr result → HasCountedFailure old new

-- if the room is known, as many bytes are taken as fit; a piece is refused only if it isn't empty and there is no
-- room
abbrev pub TakesWhatFits : {E : Type 0} → Option ℕ → Option ℕ → List ℕ → Result ℕ E → Type 0
TakesWhatFits None new piece result = new ≡ None
TakesWhatFits (Some room) new piece result = (new ≡ Some (room - length piece))
    × MatchResult result (λ count. count ≡ min room (length piece)) (λ _. (room ≡ 0) × (0 < length piece))

-- a prefix of the piece was appended to the known bytes
abbrev pub AppendsSome : Option (List ℕ) → Option (List ℕ) → List ℕ → Type 0
AppendsSome old new piece = (count : ℕ) × (count ≤ length piece) × Appends old new (take count piece)

-- if the room is known, a piece that fits is taken whole, and of any other piece as many bytes as fit
abbrev pub WritesWhatFits : {E : Type 0} → Option ℕ → Option ℕ → Option (List ℕ) → Option (List ℕ) → List ℕ
    → Result (Unit {0}) E → Type 0
WritesWhatFits None new before after piece result = new ≡ None
WritesWhatFits (Some room) new before after piece result = (new ≡ Some (room - length piece))
    × MatchResult result (λ _. length piece ≤ room)
    (λ _. (room < length piece) × Appends before after (take room piece))
