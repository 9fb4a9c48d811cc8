-- What is asked for is the file of a vertex.
use Rattle.std.proofs.Common.{◌≡◌, ◌∙◌, List, [], ◌∷◌, Option, None, Some, Result, Ok, Err, ap, append-nil, refl, sym, inl, inr}
use Rattle.std.specs.Prelude.{IsErrAnd, IsSome, IsSomeAnd}
use Rattle.gm_name.specs.ModuleVersion.{ModuleVersion}
use Rattle.gm_store_parts.specs.Asked.{Name, Reply, answer_in, name_of}
use Rattle.gm_store_parts.specs.Requests.{IsRequest, refused_for}
use Rattle.gm_store_parts.specs.States.{StoreState}
use Rattle.gm_store_parts.specs.declared.files.AskFault.{AskFault}
use Rattle.gm_store_parts.specs.declared.files.AskFault.TheVariants as ask
use Rattle.gm_store_parts.specs.declared.files.FileName.{FileName}
use Rattle.gm_store_parts.proofs.Serving.{nothing_served, request_served}
use Rattle.gm_graph_cache.specs.Asking.{AsksFor, StillLacks, AsksOne, IsAskableFile, IsLoadFaultOf}
use Rattle.gm_graph_cache.specs.Refusals.{refused_names}
use Rattle.gm_graph_cache.specs.declared.cache.load_fault.LoadFault.{LoadFault}
use Rattle.gm_file.specs.Main.{Main}

-- ---- a call that asks for a name

module _ {before after : Name → Option Reply → Type 0} (old new : StoreState) (name : Name) (fresh : answer_in old.asked name ≡ None) where
  pub asked_one : (result : Result (Unit {0}) AskFault) → IsRequest before after old new name result
      → AsksOne (λ n. n ≡ name) before after old new (refused_for name result)
  asked_one (Ok u) is =
      let (reply, _, _, adds) = is.answered in
      record {
        asks = inr (name, refl, fresh, (reply, adds));
        device = λ n e. absurd (cc e);
        refused = is.refused;
        served = request_served before after old new name (Ok u) is;
      }
  asked_one (Err fault) is = record {
    asks = inl is.unanswered;
    device = λ n e. let same : name ≡ n = only_refused fault n e in (is.unanswered, sym same, rw same at fresh);
    refused = is.refused;
    served = request_served before after old new name (Err fault) is;
  }
    where
      only_refused : (fault : AskFault) (n : Name) → refused_for {T = Unit {0}} name (Err fault) ≡ n ∷ [] → name ≡ n
      only_refused ask.NoMemory n e = absurd (cc e)
      only_refused ask.Device n e = cc e

-- Nothing was asked for.
pub asks_nothing : {A : Name → Type 0} {may : Name → Option Reply → Type 0} {state : StoreState} → AsksOne A may may state state []
asks_nothing {A} {may} {state} = record {
  asks = inl refl;
  device = λ name e. absurd (cc e);
  refused = sym (append-nil state.refused);
  served = nothing_served may state;
}

-- ---- the same, said of other names, and of another refusal

module _ {A : Name → Type 0} {before after : Name → Option Reply → Type 0} {old new : StoreState} where
  pub asks_wider : {B : Name → Type 0} {failed : List Name} → ((name : Name) → A name → B name) → AsksOne A before after old new failed
      → AsksOne B before after old new failed
  asks_wider wider one = record {
    asks = elim one.asks [
      | inl same ↦ inl same
      | inr asked ↦ inr (asked.0, wider asked.0 asked.1, asked.2, asked.3)
    ];
    device = λ name e. let lacks = one.device name e in (lacks.0, wider name lacks.1, lacks.2);
    refused = one.refused;
    served = one.served;
  }

  pub asks_by : {failed names : List Name} → failed ≡ names → AsksOne A before after old new failed → AsksOne A before after old new names
  asks_by e one = rw e at one

  -- A refusal is passed on.
  pub asks_passed : (S : Type 0) {T : Type 0} (name : Name) (fault : AskFault) (result : Result T AskFault) → IsErrAnd result (λ f. f ≡ fault)
      → AsksOne A before after old new (refused_for {T = S} name (Err fault)) → AsksOne A before after old new (refused_for name result)
  asks_passed S name fault (Ok value) given one = absurd given
  asks_passed S {T} name fault (Err f) given one = rw given (same_for fault one)
    where
      same_for : (e : AskFault) → AsksOne A before after old new (refused_for {T = S} name (Err e))
          → AsksOne A before after old new (refused_for {T = T} name (Err e))
      same_for ask.NoMemory is = is
      same_for ask.Device is = is

  -- Memory ran out after it.
  pub asks_still : {T : Type 0} (name : Name) (result : Result T AskFault) → IsErrAnd result (λ fault. fault ≡ ask.NoMemory)
      → AsksOne A before after old new [] → AsksOne A before after old new (refused_for name result)
  asks_still name (Ok value) given one = absurd given
  asks_still name (Err fault) given one = rw given one

-- ---- what it means for a vertex

module _ {before after : Name → Option Reply → Type 0} {old new : StoreState} {failed : List Name} (main : Main) (x : ModuleVersion)
    (one : AsksOne (IsAskableFile main x) before after old new failed) where
  pub asks_for : AsksFor main old new x
  asks_for = elim one.asks [
    | inl same ↦ inl same
    | inr asked ↦ inr (
      rw asked.1.0 at asked.1.1,
      rw asked.1.0 at asked.2,
      (asked.3.0, rw asked.1.0 at asked.3.1),
    )
  ]

  pub lacks_still : (name : Name) → failed ≡ name ∷ [] → StillLacks main old new x name
  lacks_still name e = let lacks = one.device name e in (lacks.0, lacks.1.0, lacks.1.1, lacks.2)

-- ---- the fault of a load

pub has_some : (failed : Option FileName) (name : Name) → IsSomeAnd failed (λ there. name_of there ≡ name) → IsSome failed
has_some None name has = absurd has
has_some (Some there) name has = refl

pub refused_failed : (T : Type 0) (name : Name) (fault : AskFault) (failed : Option FileName) (result : LoadFault)
    → (fault ≡ ask.Device → IsSomeAnd failed (λ there. name_of there ≡ name))
    → IsLoadFaultOf fault failed result → refused_for {T = T} name (Err fault) ≡ refused_names result
refused_failed T name ask.NoMemory failed result has is = sym (ap refused_names is)
refused_failed T name ask.Device None result has is = absurd is
refused_failed T name ask.Device (Some there) result has is = ap (λ (n : Name). n ∷ []) (sym (has refl)) ∙ sym (ap refused_names is)
