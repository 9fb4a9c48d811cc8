use Rattle.std.proofs.Common.{◌≡◌, ◌∷◌, ◌∙◌, ◌+◌, ◌-◌, Bool, List, ap, cond, drop, length, sym, take, true, ℕ}
use Rattle.std.proofs.lemmas.List.{drop_more, take_rest}
use Rattle.gm_name.specs.ModuleVersion.{ModuleVersion}
use Rattle.gm_graph_select.specs.Greatest.{greatest_of, is_selected}
use Rattle.gm_graph_select.proofs.selecting.first_selected.Goals as goal

chosen : (main : List ℕ) (all behind : List ModuleVersion) (x : ModuleVersion) → all ≡ x ∷ behind → is_selected main x behind ≡ true
    → greatest_of main all ≡ x ∷ greatest_of main behind
chosen main all behind x is same =
    let rest = greatest_of main behind in rw is (ap (λ (b : Bool). cond b (x ∷ rest) rest) same)

pub returns-then-is_selected-clause-some : goal.returns-then-is_selected-clause-some
returns-then-is_selected-clause-some c =
    let vertices = c.args.vertices.now in
    let place = c.loop-place.place in
    let one = c.index-vertices-place.result in
    let behind = take (length vertices - (place + 1)) (drop (place + 1) vertices) in
    sym c.loop-place.invariant ∙ chosen c.args.main.now (drop place vertices) behind one
    (drop_more vertices place one c.loop-place-test.true
    ∙ ap (λ (x : ModuleVersion). x ∷ drop (place + 1) vertices) (sym c.index-vertices-place.is)
    ∙ ap (λ (xs : List ModuleVersion). one ∷ xs) (sym (take_rest vertices (place + 1))))
    (sym c.is_selected.ensures ∙ c.if-is_selected.true)
