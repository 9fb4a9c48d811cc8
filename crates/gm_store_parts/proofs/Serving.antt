-- What several requests do to a store, one after another.
use Rattle.std.proofs.Common.{◌≡◌, ◌∙◌, ◌⊎◌, ◌++◌, List, [], ◌∷◌, Contains, Option, Some, None, Result, Ok, Err, ap, append-nil, arith, length, refl, subst, inl, inr}
use Rattle.std.proofs.lemmas.List.Elements.{Contains-push_cases}
use Rattle.gm_store_parts.specs.Asked.{Name, Reply}
use Rattle.gm_store_parts.specs.Requests.{IsRequest}
use Rattle.gm_store_parts.specs.States.{HasServed, MayGrow, MayRefuse, RefusesWithCause, StoreState}
use Rattle.gm_store_parts.proofs.Counts.{cause_both, later_both}
use Rattle.gm_store_parts.specs.declared.files.AskFault.{AskFault}
use Rattle.gm_store_parts.specs.declared.files.AskFault.TheVariants.{Device, NoMemory}

-- ---- lists of which each item is one of an earlier list, or such a one

item_more : {X : Type 0} (Is : X → Type 0) (old : List X) {new : List X} {x : X} → Is x → new ≡ old ++ x ∷ []
    → (y : X) → Contains new y → Contains old y ⊎ Is y
item_more Is old {x = x} is e y h = elim (Contains-push_cases old x y (subst (λ ys. Contains ys y) e h)) [
  | inl there ↦ inl there
  | inr same ↦ inr (subst Is same is)
]

item_same : {X : Type 0} {old new : List X} {A : Type 0} {y : X} → new ≡ old → Contains new y → Contains old y ⊎ A
item_same {y = y} e h = inl (subst (λ ys. Contains ys y) e h)

not_earlier : {X : Type 0} {old : List X} {A : Type 0} {y : X} → old ≡ [] → Contains old y ⊎ A → A
not_earlier none (inl there) = absurd (omega (arith, ap length none, there.1))
not_earlier none (inr is) = is

-- ---- requests

-- A store of which nothing was asked.
pub nothing_served : (may : Name → Option Reply → Type 0) (state : StoreState) → HasServed may may state state
nothing_served may state = record {
  answers = λ n r. inl;
  refusals = λ n. inl;
  no_more = λ n r is. is;
  cause = inl refl;
  later = omega arith;
}

-- some requests, and then more
pub served_both : (first second last : Name → Option Reply → Type 0) (old mid new : StoreState) → HasServed first second old mid
    → HasServed second last mid new → HasServed first last old new
served_both first second last old mid new one two = record {
  answers = λ n r h. elim (two.answers n r h) [
    | inl there ↦ one.answers n r there
    | inr may ↦ inr (one.no_more n (Some r) may)
  ];
  refusals = λ n h. elim (two.refusals n h) [
    | inl there ↦ one.refusals n there
    | inr may ↦ inr (one.no_more n None may)
  ];
  no_more = λ n r is. one.no_more n r (two.no_more n r is);
  cause = cause_both old.refused mid.refused new.refused old.faults mid.faults new.faults _ one.later two.later one.cause two.cause;
  later = later_both old.faults mid.faults new.faults one.later two.later;
}

-- If there were no answers before, each is one that the store might give.
pub may_all : (before after : Name → Option Reply → Type 0) (old new : StoreState) → old.asked ≡ [] → HasServed before after old new
    → (n : Name) (r : Reply) → Contains new.asked (n, r) → before n (Some r)
may_all before after old new none served n r h = not_earlier none (served.answers n r h)

-- If no name was refused before, each is one at which the device might fail.
pub may_refuse_all : (before after : Name → Option Reply → Type 0) (old new : StoreState) → old.refused ≡ [] → HasServed before after old new
    → (n : Name) → Contains new.refused n → before n None
may_refuse_all before after old new none served n h = not_earlier none (served.refusals n h)

answers_of : (before after : Name → Option Reply → Type 0) (old new : StoreState) (name : Name) (result : Result (Unit {0}) AskFault)
    → IsRequest before after old new name result → MayGrow before old new
answers_of before after old new name (Ok u) is =
    let (reply, may, small, adds) = is.answered in
    λ n r. item_more (λ (pair : Name × Reply). before pair.0 (Some pair.1)) old.asked may adds (n, r)
answers_of before after old new name (Err fault) is = λ n r. item_same is.unanswered

refusals_of : (before after : Name → Option Reply → Type 0) (old new : StoreState) (name : Name) (result : Result (Unit {0}) AskFault)
    → IsRequest before after old new name result → MayRefuse before old new
refusals_of before after old new name (Ok u) is = λ n. item_same (is.refused ∙ append-nil old.refused)
refusals_of before after old new name (Err NoMemory) is = λ n. item_same (is.refused ∙ append-nil old.refused)
refusals_of before after old new name (Err Device) is = item_more (λ name. before name None) old.refused (is.fails refl) is.refused

cause_of : (before after : Name → Option Reply → Type 0) (old new : StoreState) (name : Name) (result : Result (Unit {0}) AskFault)
    → IsRequest before after old new name result → RefusesWithCause old new
cause_of before after old new name (Ok u) is = inl (is.refused ∙ append-nil old.refused)
cause_of before after old new name (Err NoMemory) is = inl (is.refused ∙ append-nil old.refused)
cause_of before after old new name (Err Device) is = inr (is.cause refl)

-- one request
pub request_served : (before after : Name → Option Reply → Type 0) (old new : StoreState) (name : Name) (result : Result (Unit {0}) AskFault)
    → IsRequest before after old new name result → HasServed before after old new
request_served before after old new name result is = record {
  answers = answers_of before after old new name result is;
  refusals = refusals_of before after old new name result is;
  no_more = is.no_more;
  cause = cause_of before after old new name result is;
  later = is.later;
}
