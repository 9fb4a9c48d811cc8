-- The same may come of requests to stores over the same folders.
use Rattle.std.proofs.Common.{◌≡◌, ℕ, List, Option, subst}
use Rattle.gm_store_parts.specs.declared.fallback.proxy_list.Mark.{Mark}
use Rattle.gm_store_parts.specs.Asked.{Name, Reply}
use Rattle.gm_store_parts.specs.Openings.{Opening}
use Rattle.gm_store.specs.DiskAnswers.{MayAnswer}

pub same_answers : {S : Type 0} (may_open : S → List ℕ → Opening → Type 0) (made system : S) (main folder : List ℕ)
    (proxies folders : List (List ℕ)) (between marks : List Mark)
    → made ≡ system → main ≡ folder → proxies ≡ folders → between ≡ marks → (name : Name) (outcome : Option Reply)
    → MayAnswer (may_open made) main proxies between name outcome → MayAnswer (may_open system) folder folders marks name outcome
same_answers may_open made system main folder proxies folders between marks s m p b name outcome stated =
    subst (λ s. MayAnswer (may_open s) folder folders marks name outcome) s
    (subst (λ (m : List ℕ). MayAnswer (may_open made) m folders marks name outcome) m
    (subst (λ (p : List (List ℕ)). MayAnswer (may_open made) main p marks name outcome) p
    (subst (λ (b : List Mark). MayAnswer (may_open made) main proxies b name outcome) b stated)))
