-- The ends of a request, by what the store did.
use Rattle.std.proofs.Common.{◌≡◌, ◌∙◌, ◌≤◌, ◌++◌, ◌∷◌, [], Option, Some, None, Result, Ok, Err, ap, append-nil, sym}
use Rattle.std.specs.Result.{IsErrAnd}
use Rattle.gm_store_parts.specs.Asked.{IsWithinLimit, Name, Reply}
use Rattle.gm_store_parts.specs.Requests.{IsRequest, refused_for}
use Rattle.gm_store_parts.specs.States.{AddsAnswer, CountsFailure, MayLess, StoreState}
use Rattle.gm_store_parts.specs.declared.files.AskFault.{AskFault}
use Rattle.gm_store_parts.specs.declared.files.AskFault.TheVariants.{Device, NoMemory}

module _ (before after : Name → Option Reply → Type 0) (old new : StoreState) (name : Name) (no_more : MayLess after before)
    (later : old.faults ≤ new.faults) where
  -- it was answered
  pub request_answered : (reply : Reply) → before name (Some reply) → IsWithinLimit reply → AddsAnswer old new name reply → new.refused ≡ old.refused
      → IsRequest before after old new name (Ok tt)
  request_answered reply may small adds same = record {
    answered = (reply, may, small, adds);
    unanswered = tt;
    refused = same ∙ sym (append-nil old.refused);
    fails = λ e. cc e;
    cause = λ e. cc e;
    no_more = no_more;
    later = later;
  }

  -- the device failed
  pub request_refused : before name None → new.asked ≡ old.asked → new.refused ≡ old.refused ++ name ∷ [] → CountsFailure old new
      → IsRequest before after old new name (Err Device)
  request_refused might same grown counted = record {
    answered = tt;
    unanswered = same;
    refused = grown;
    fails = λ e. might;
    cause = λ e. counted;
    no_more = no_more;
    later = later;
  }

  -- memory ran out
  pub request_starved : (result : Result (Unit {0}) AskFault) → IsErrAnd result (λ fault. fault ≡ NoMemory) → new.asked ≡ old.asked
      → new.refused ≡ old.refused → IsRequest before after old new name result
  request_starved (Ok u) starved same still = absurd starved
  request_starved (Err fault) starved same still =
      let ended : AskFault → Result (Unit {0}) AskFault = λ f. Err f in
      record {
        answered = tt;
        unanswered = same;
        refused = still ∙ sym (append-nil old.refused) ∙ ap (λ (f : AskFault). old.refused ++ refused_for name (ended f)) (sym starved);
        fails = λ e. let never : ended NoMemory ≡ ended Device = ap ended (sym starved) ∙ e in cc never;
        cause = λ e. let never : ended NoMemory ≡ ended Device = ap ended (sym starved) ∙ e in cc never;
        no_more = no_more;
        later = later;
      }
