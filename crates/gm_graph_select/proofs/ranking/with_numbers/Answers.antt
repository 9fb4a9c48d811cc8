use Rattle.std.proofs.Common.{◌≡◌, ◌∷◌, ◌++◌, ◌∙◌, [], List, ap, append-nil, append_assoc, arith, refl, sym, take}
use Rattle.std.proofs.lemmas.List.{nil_from_length}
use Rattle.std.specs.Vec.Iter.{into_iter_items}
use Rattle.gm_name.specs.ModuleVersion.{ModuleVersion}
use Rattle.gm_graph_select.specs.declared.ranking.Numbered.{Numbered}
use Rattle.gm_graph_select.proofs.Ranks.{next_module, next_numbered}
use Rattle.gm_graph_select.proofs.ranking.with_numbers.Goals as goal

pub loop-vertex-preserved : goal.loop-vertex-preserved
loop-vertex-preserved c =
    let so = c.loop-vertex.invariant in
    let modules = c.args.modules.items in
    let number = c.loop-vertex.number in
    let vertex = c.in-Some.vertex in
    let rest = into_iter_items c.next.new.self in
    let front = take number modules in
    let left : front ++ vertex ∷ rest ≡ modules = ap (λ (xs : List ModuleVersion). front ++ xs) (sym c.in-Some.ensures.steps.0) ∙ so.rest in
    let (inside, size, taken) = next_module modules rest vertex number so.within left in
    let next : Numbered = record { vertex = vertex; number = number } in
    record {
      within = omega (arith, inside);
      rest = ap (λ (xs : List ModuleVersion). xs ++ rest) taken ∙ append_assoc front (vertex ∷ []) rest ∙ left;
      numbered = rw taken
          (rw c.in_ok-push_marked.ensures
          (next_numbered vertex so.numbered next (sym size) refl));
    }

pub bounds-is_vertex-number : goal.bounds-is_vertex-number
bounds-is_vertex-number c =
    let so = c.loop-vertex.invariant in
    let modules = c.args.modules.items in
    let left = ap (λ (xs : List ModuleVersion). take c.loop-vertex.number modules ++ xs) (sym c.in-Some.ensures.steps.0) ∙ so.rest in
    let (inside, _, _) = next_module modules (into_iter_items c.next.new.self) c.in-Some.vertex c.loop-vertex.number so.within left in
    omega (arith, inside, c.requires.marks)

pub overflow_add-number : goal.overflow_add-number
overflow_add-number c =
    let so = c.loop-vertex.invariant in
    let modules = c.args.modules.items in
    let left = ap (λ (xs : List ModuleVersion). take c.loop-vertex.number modules ++ xs) (sym c.in-Some.ensures.steps.0) ∙ so.rest in
    let (inside, _, _) = next_module modules (into_iter_items c.next.new.self) c.in-Some.vertex c.loop-vertex.number so.within left in
    omega (arith, inside, c.requires.few)

pub loop-vertex-smaller : goal.loop-vertex-smaller
loop-vertex-smaller c = omega (arith, c.in-Some.ensures.steps.1)

pub returns : goal.returns
returns c =
    let so = c.loop-vertex.invariant in
    let front = take c.loop-vertex.number c.args.modules.items in
    let left = c.loop-vertex.vertex-iterator in
    let none = nil_from_length (into_iter_items left) (sym left.rest.ok.0 ∙ c.in-None.ensures.steps.0) in
    let whole = sym (append-nil front) ∙ ap (λ (xs : List ModuleVersion). front ++ xs) (sym none) ∙ so.rest in
    rw⁻¹ whole so.numbered
