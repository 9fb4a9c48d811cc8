-- What one request does to a store.
use Rattle.std.specs.Prelude.{◌≡◌, ◌≤◌, ◌∷◌, ◌++◌, [], List, OnErr, OnOk, Option, Some, None, Result, Ok, Err}
use Rattle.gm_store_parts.specs.Asked.{IsWithinLimit, Name, Reply}
use Rattle.gm_store_parts.specs.States.{AddsAnswer, CountsFailure, MayLess, StoreState}
use Rattle.gm_store_parts.specs.declared.files.AskFault.{AskFault}
use Rattle.gm_store_parts.specs.declared.files.AskFault.TheVariants.{Device, NoMemory}

-- the names whose request was refused: this one, if the device failed
abbrev pub refused_for : {T : Type 0} → Name → Result T AskFault → List Name
refused_for name (Ok value) = []
refused_for name (Err NoMemory) = []
refused_for name (Err Device) = name ∷ []

-- What a request for a name did to a store. `before` says what might come of a request before this one, `after` what
-- may come of one after it: an answer, or none if the device may fail at the name.
pub record IsRequest (before after : Name → Option Reply → Type 0) (old new : StoreState) (name : Name)
    (result : Result (Unit {0}) AskFault) : Type 0 where
  -- If the store answered, the answer is one that it might give, of at most 16 MiB, and stands after the earlier ones.
  pub answered : OnOk result ((reply : Reply) × before name (Some reply) × IsWithinLimit reply
      × AddsAnswer old new name reply)
  -- If it didn't answer, it has the answers that it had.
  pub unanswered : OnErr result (new.asked ≡ old.asked)
  -- The name was refused if the device failed. The device failed only if it might at this name, and then a failure was
  -- counted, or the count was at its maximum.
  pub refused : new.refused ≡ old.refused ++ refused_for name result
  pub fails : result ≡ Err Device → before name None
  pub cause : result ≡ Err Device → CountsFailure old new
  -- Nothing else became possible, and the count of failures didn't fall.
  pub no_more : MayLess after before
  pub later : old.faults ≤ new.faults
