use Rattle.std.proofs.Common.{◌≡◌, ◌∷◌, ◌++◌, ◌<◌, ◌∙◌, ℕ, List, Contains, ap, append-nil, arith, get_or, inl, inr, length, map, refl, set, sym}
use Rattle.std.proofs.lemmas.List.{length-set, nil_from_length}
use Rattle.std.proofs.lemmas.List.Elements.{All-contains, Contains-get_or}
use Rattle.std.specs.Vec.Iter.{into_iter_items}
use Rattle.gm_name.specs.ModuleVersion.{ModuleVersion}
use Rattle.gm_graph_select.specs.declared.ranking.Numbered.{Numbered}
use Rattle.gm_graph_select.proofs.Ascending.{member_head, member_tail}
use Rattle.gm_graph_select.proofs.Ranks.{fewer, next_ranked, next_vertices}
use Rattle.gm_graph_select.proofs.ranking.ranking_of.Goals as goal

pub overflow_cast-len : goal.overflow_cast-len
overflow_cast-len c =
    let so = c.loop-next.invariant in
    let below = fewer c.args.all.items c.loop-next.vertices.items (into_iter_items c.loop-next.next-iterator) so.vertices in
    omega (arith, below, c.requires.few)

pub loop-next-preserved : goal.loop-next-preserved
loop-next-preserved c =
    let so = c.loop-next.invariant in
    let all = c.args.all.items in
    let next = c.in-Some.next in
    let rest = into_iter_items c.next.new.self in
    let before = c.in-Some.ensures.steps.0 in
    let vertices = c.loop-next.vertices.items in
    let ranks = c.loop-next.ranks.items in
    let rest_from : (x : Numbered) → Contains (next ∷ rest) x → Contains all x =
    λ x h. so.rest x (rw before h) in
    let in_all : Contains all next = rest_from next (member_head next rest) in
    let low : next.number < c.args.modules = All-contains (λ (one : Numbered). one.number < c.args.modules) all next c.requires.within in_all in
    let inside : next.number < length ranks = omega (arith, low, so.count) in
    let size : c.len-in-loop-next.result ≡ length vertices = omega (arith, c.len-in-loop-next.ensures, c.loop-next.vertices.ok) in
    let made : set ranks next.number c.len-in-loop-next.result ≡ set ranks next.number (length vertices) = ap (λ (n : ℕ). set ranks next.number n) size in
    record {
      vertices = ap (λ (xs : List ModuleVersion). xs ++ map (λ (one : Numbered). one.vertex) rest) c.in_ok-push.ensures.items
          ∙ next_vertices all vertices next rest (ap (λ (xs : List Numbered). vertices ++ map (λ (one : Numbered). one.vertex) xs) (sym before) ∙ so.vertices);
      count = length-set ranks next.number c.len-in-loop-next.result ∙ so.count;
      rest = λ x h. rest_from x (member_tail next x rest h);
      each = λ x there.
          let kept = next_ranked all vertices ranks next rest c.requires.once in_all inside x there
          (elim (so.each x there) [
            | inl ranked ↦ inl ranked
            | inr left ↦ inr (rw before at left)
          ]) in
          rw (c.in_ok-push.ensures.items, made) kept;
    }

pub loop-next-init : goal.loop-next-init
loop-next-init c =
    let all = c.args.all.items in
    let gives = c.into_iter-next-iterator.ensures.into_iter_gives.0 in
    record {
      vertices = rw (c.in_ok-vertices.ensures.items, gives) refl;
      count = omega (arith, c.in_ok-ranks.ensures.len, c.in_ok-ranks.ranks.ok);
      rest = λ x h. rw⁻¹ gives h;
      each = λ x there. inr (rw gives there);
    }

pub index_mut-requires : goal.index_mut-requires
index_mut-requires c =
    let so = c.loop-next.invariant in
    let all = c.args.all.items in
    let next = c.in-Some.next in
    let rest = into_iter_items c.next.new.self in
    let in_all = so.rest next (rw c.in-Some.ensures.steps.0 (member_head next rest)) in
    let low = All-contains (λ (one : Numbered). one.number < c.args.modules) all next c.requires.within in_all in
    omega (arith, low, so.count, c.loop-next.ranks.ok)

pub loop-next-smaller : goal.loop-next-smaller
loop-next-smaller c = omega (arith, c.in-Some.ensures.steps.1)

pub returns-clause-vertices : goal.returns-clause-vertices
returns-clause-vertices c =
    let vertices = c.loop-next.vertices.items in
    let left = c.loop-next.next-iterator in
    let none = nil_from_length (into_iter_items left) (sym left.rest.ok.0 ∙ c.in-None.ensures.steps.0) in
    sym (append-nil vertices) ∙ ap (λ (xs : List Numbered). vertices ++ map (λ (one : Numbered). one.vertex) xs) (sym none)
    ∙ c.loop-next.invariant.vertices

pub returns-clause-ranks : goal.returns-clause-ranks
returns-clause-ranks c = λ k d below.
    let all = c.args.all.items in
    let left = c.loop-next.next-iterator in
    elim (c.loop-next.invariant.each (get_or all k d) (Contains-get_or all k d below)) [
      | inl ranked ↦ ranked
      | inr found ↦ absurd (omega (arith, found.1, left.rest.ok.0, c.in-None.ensures.steps.0))
    ]
