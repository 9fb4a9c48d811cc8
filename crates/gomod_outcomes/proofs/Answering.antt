-- The answers of a store, in the order of the asks.
use Rattle.std.proofs.Common.{◌≡◌, ◌&&◌, ℕ, Bool, if◌then◌else◌, List, [], ◌∷◌, Some, Contains, ap, ap₂, arith, inl, inr, sym}
use Rattle.std.proofs.lemmas.Bool.{cases_Bool}
use Rattle.gm_graph_select.proofs.Ascending.{member_tail}
use Rattle.gm_store_parts.proofs.NameOrder.{names_equal}
use Rattle.gm_store_parts.specs.Asked.{Name, Reply, answer_in, list_file, mod_file}
use Rattle.gm_name.proofs.Texts.{bytes_eq-self}

-- the list is answered first
pub list_answer : (path : List ℕ) (reply : Reply) (rest : List (Name × Reply)) → answer_in ((list_file path, reply) ∷ rest) (list_file path) ≡ Some reply
list_answer path reply rest = ap (λ b. if b then Some reply else answer_in rest (list_file path)) (bytes_eq-self path)

-- and then the go.mod of a version
pub file_answer : (path version : List ℕ) (first reply : Reply) (rest : List (Name × Reply))
    → answer_in ((list_file path, first) ∷ (mod_file path version, reply) ∷ rest) (mod_file path version) ≡ Some reply
file_answer path version first reply rest =
    ap (λ b. if b then Some reply else answer_in rest (mod_file path version))
    (ap₂ (λ (x y : Bool). x && y) (bytes_eq-self path) (bytes_eq-self version))

-- every answer is the answer to some ask
pub answered_in : (pairs : List (Name × Reply)) (name : Name) (reply : Reply) → answer_in pairs name ≡ Some reply → Contains pairs (name, reply)
answered_in [] name reply e = cc e
answered_in (pair ∷ pairs) name reply e = elim (cases_Bool _) [
  | inl same ↦ (0, omega arith, ap₂ (λ (n : Name) (r : Reply). (n, r)) (sym (names_equal _ _ same)) (cc (rw same at e)))
  | inr other ↦ member_tail _ _ _ (answered_in pairs _ _ (rw other at e))
]
