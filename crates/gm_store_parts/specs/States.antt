-- What is known of a store, and what requests do to it.
use Rattle.std.specs.Prelude.{◌≡◌, ◌≤◌, ◌⊎◌, ℕ, Contains, List, [], ◌∷◌, ◌++◌, Option, Some, None}
use Rattle.gm_store_parts.specs.Asked.{Name, Reply}
use Rattle.gm_store_parts.specs.Faults.{HasCountedFailure}

-- what is known of a store: the names requested so far with their answers, the names whose requests were refused
-- because the device failed, both in order, and how often the device has failed
pub record StoreState : Type 0 where
  pub asked : List (Name × Reply)
  pub refused : List Name
  pub faults : ℕ

-- one more name has an answer
abbrev pub AddsAnswer : StoreState → StoreState → Name → Reply → Type 0
AddsAnswer old new name reply = new.asked ≡ old.asked ++ (name, reply) ∷ []

-- a failure was counted, unless the count was at its maximum already
abbrev pub CountsFailure : StoreState → StoreState → Type 0
CountsFailure old new = HasCountedFailure old.faults new.faults

-- no request was refused, or a failure was counted
abbrev pub RefusesWithCause : StoreState → StoreState → Type 0
RefusesWithCause old new = (new.refused ≡ old.refused) ⊎ CountsFailure old new

-- In what follows `may` says what may come of requesting a name: an answer, or none if the device may fail at it.

-- Each answer that is there after was there before, or is one that the store might give.
abbrev pub MayGrow : (Name → Option Reply → Type 0) → StoreState → StoreState → Type 0
MayGrow may old new = (name : Name) (reply : Reply) → Contains new.asked (name, reply)
    → Contains old.asked (name, reply) ⊎ may name (Some reply)

-- Each name that is refused after was refused before, or is one at which the device might fail.
abbrev pub MayRefuse : (Name → Option Reply → Type 0) → StoreState → StoreState → Type 0
MayRefuse may old new = (name : Name) → Contains new.refused name → Contains old.refused name ⊎ may name None

-- All that may come of a request after may come of it before, too.
abbrev pub MayLess : (Name → Option Reply → Type 0) → (Name → Option Reply → Type 0) → Type 0
MayLess after before = (name : Name) (outcome : Option Reply) → after name outcome → before name outcome

-- What requests did to a store, however many they were. `before` says what might come of one before them, `after`
-- what may come of one after them.
pub record HasServed (before after : Name → Option Reply → Type 0) (old new : StoreState) : Type 0 where
  -- Each new answer is one that the store might give, the device failed only where it might, and nothing else became
  -- possible.
  pub answers : MayGrow before old new
  pub refusals : MayRefuse before old new
  pub no_more : MayLess after before
  -- If a request was refused, a failure was counted, or the count was at its maximum; and the count never falls.
  pub cause : RefusesWithCause old new
  pub later : old.faults ≤ new.faults
