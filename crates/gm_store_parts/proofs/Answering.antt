-- The answer to the last request.
use Rattle.std.proofs.Common.{◌≡◌, ◌∙◌, ◌++◌, ◌∷◌, ◌-◌, ℕ, List, [], Some, ap, arith, length, length-append, refl, sym}
use Rattle.std.specs.Prelude.{slice_get}
use Rattle.gm_store_parts.specs.Asked.{Name, Reply, replies_in}

last_reply : (pairs : List (Name × Reply)) (pair : Name × Reply) → slice_get (replies_in (pairs ++ pair ∷ [])) (length pairs) ≡ Some pair.1
last_reply [] pair = refl
last_reply (first ∷ pairs) pair = last_reply pairs pair

pub last_answered : (all before : List (Name × Reply)) (last : Name × Reply) (found : Reply) (count : ℕ) → all ≡ before ++ last ∷ []
    → count ≡ length all → slice_get (replies_in all) (count - 1) ≡ Some found → found ≡ last.1
last_answered all before last found count e c at =
    let place : count - 1 ≡ length before = omega (arith, ap length e, length-append before (last ∷ [])) in
    let here : Some found ≡ Some last.1 = sym at ∙ ap (λ (i : ℕ). slice_get (replies_in all) i) place
    ∙ ap (λ (ps : List (Name × Reply)). slice_get (replies_in ps) (length before)) e ∙ last_reply before last in
    cc
