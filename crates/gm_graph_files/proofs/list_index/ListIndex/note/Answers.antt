use Rattle.std.proofs.Common.{◌≡◌, ◌∙◌, ℕ, List, inl, inr, sym}
use Rattle.std.specs.Cmp.{eq_by_cmp_equiv}
use Rattle.std.specs.Cmp.Lexicographic.{bytes_decides, nat_list_cmp_total, slice_cmp}
use Rattle.std.specs.Map.{KeepsOthers}
use Rattle.std.specs.Ordering.{is_eq, nat_cmp}
use Rattle.std.specs.Prelude.{true}
use Rattle.std.proofs.lemmas.Bool.{cases_Bool}
use Rattle.std.proofs.lemmas.Map.Text.{is_eq-slice_cmp}
use Rattle.gm_graph_files.proofs.list_index.ListIndex.note.Goals as goal

same_key : (xs ys : List ℕ) → is_eq (slice_cmp nat_cmp xs ys) ≡ true → xs ≡ ys
same_key xs ys e = (bytes_decides xs ys).0 (sym (is_eq-slice_cmp xs ys) ∙ e)

pub returns-in_ok-insert-in-Some-clause-others : goal.returns-in_ok-insert-in-Some-clause-others
unfolding KeepsOthers
returns-in_ok-insert-in-Some-clause-others c = λ lists apart notes place long.
    let key = c.in_ok-from_slice-in-Some in
    let list = lists place in
    rw (c.in_ok-insert-in-Some.ensures.updates.3 (λ k. is_eq (slice_cmp nat_cmp list k.items))
    (λ x y. (eq_by_cmp_equiv nat_list_cmp_total).congr list x.items y.items)
    (λ k here. elim (cases_Bool (is_eq (slice_cmp nat_cmp list k.items))) [
      | inl too ↦ absurd (apart place (same_key list k.items too ∙ sym (same_key key.field-0.items k.items here) ∙ key.ensures.items))
      | inr other ↦ other
    ])) (notes place long)
