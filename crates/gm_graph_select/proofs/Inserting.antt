-- The members of each list of vertices can be put in ascending order, so each list of edges has a build list.
use Rattle.std.proofs.Common.{◌≡◌, ◌⊎◌, ℕ, List, [], ◌∷◌, map, Contains, ap, ◌∙◌, sym, refl, inl, inr, arith}
use Rattle.std.specs.declared.cmp.Ordering.{Ordering}
use Rattle.std.specs.declared.cmp.Ordering.TheVariants.{Less, Equal, Greater}
use Rattle.std.specs.BTreeSet.{insert_key}
use Rattle.std.specs.Ordering.{match_ordering, ordering_reverse}
use Rattle.gm_name.specs.ModuleVersion.{ModuleVersion, pair_cmp, pair_total}
use Rattle.gm_name.specs.Private.ModuleVersion.{pair-anti}
use Rattle.gm_graph_select.specs.declared.step.Edge.{Edge}
use Rattle.gm_graph_select.specs.BuildList.{AreSelected, entry_of, main_entry}
use Rattle.gm_graph_select.specs.Graph.{AreEnds, among}
use Rattle.gm_graph_select.specs.Greatest.{greatest_of}
use Rattle.gm_graph_select.specs.Laws.{SomeBuildList}
use Rattle.gm_graph_select.specs.Order.{HaveSame, IsAscending}
use Rattle.gm_graph_select.proofs.Ascending.{member_cases, member_head, member_tail, no_member, pairs_cons, pairs_head, pairs_tail}
use Rattle.gm_graph_select.proofs.LastVersions.{are_selected, listed}
use Rattle.gm_graph_select.proofs.Same.{ends_of, ends_same}

abbrev Below : ModuleVersion → ModuleVersion → Type 0
Below x y = pair_cmp x y ≡ Less

-- The list has the vertex and the members of the other, and no others.
record IsInserted (e : ModuleVersion) (ys zs : List ModuleVersion) : Type 0 where
  pub ascending : IsAscending pair_cmp zs
  pub kept : (x : ModuleVersion) → (e ≡ x) ⊎ Contains ys x → Contains zs x
  pub only : (x : ModuleVersion) → Contains zs x → (e ≡ x) ⊎ Contains ys x

inserted : (e : ModuleVersion) (ys : List ModuleVersion) → IsAscending pair_cmp ys → IsInserted e ys (insert_key pair_cmp ys e)
inserted e [] up = record {
  ascending = pairs_cons Below e [] (λ y h. absurd (no_member y h)) up;
  kept = λ x h. elim h [ inl same ↦ rw⁻¹ same (member_head e []) | inr there ↦ absurd (no_member x there) ];
  only = λ x h. member_cases e x [] h;
}
inserted e (y ∷ ys) up = by_order (pair_cmp e y) refl (inserted e ys (pairs_tail Below y ys up))
  where
    zs : List ModuleVersion
    zs = insert_key pair_cmp ys e

    by_order : (r : Ordering) → pair_cmp e y ≡ r → IsInserted e ys zs → IsInserted e (y ∷ ys) (match_ordering r (e ∷ y ∷ ys) (y ∷ ys) (y ∷ zs))
    by_order Less is rest = record {
      ascending = pairs_cons Below e (y ∷ ys) (λ x h. elim (member_cases y x ys h) [
        | inl same ↦ rw⁻¹ same is
        | inr later ↦ pair_total.trans e y x is (pairs_head Below y x ys up later)
      ]) up;
      kept = λ x h. elim h [
        | inl same ↦ rw⁻¹ same
            (member_head e (y ∷ ys))
        | inr there ↦ member_tail e x (y ∷ ys) there
      ];
      only = λ x h. member_cases e x (y ∷ ys) h;
    }
    by_order Equal is rest = record {
      ascending = up;
      kept = λ x h. elim h [
        | inl same ↦ rw⁻¹ (sym (pair-anti e y is) ∙ same) (member_head y ys)
        | inr there ↦ there
      ];
      only = λ x h. inr h;
    }
    by_order Greater is in_rest =
        let low : Below y e = pair_total.antisymm y e ∙ ap ordering_reverse is in
        record {
          ascending = pairs_cons Below y zs (λ x h. elim (in_rest.only x h) [
            | inl same ↦ rw⁻¹ same low
            | inr there ↦ pairs_head Below y x ys up there
          ]) in_rest.ascending;
          kept = λ x h. elim h [
            | inl same ↦ member_tail y x zs (in_rest.kept x (inl same))
            | inr there ↦ elim (member_cases y x ys there) [
              | inl first ↦ rw⁻¹ first (member_head y zs)
              | inr later ↦ member_tail y x zs (in_rest.kept x (inr later))
            ]
          ];
          only = λ x h. elim (member_cases y x zs h) [
            | inl first ↦ inr (rw⁻¹ first (member_head y ys))
            | inr later ↦ elim (in_rest.only x later) [ inl same ↦ inl same | inr there ↦ inr (member_tail y x ys there) ]
          ];
        }

-- the members of a list in ascending order
abbrev in_order : List ModuleVersion → List ModuleVersion
in_order [] = []
in_order (x ∷ xs) = insert_key pair_cmp (in_order xs) x

in_order_ascends : (xs : List ModuleVersion) → IsAscending pair_cmp (in_order xs)
in_order_ascends [] = λ i j d lt below. absurd (omega (arith, below))
in_order_ascends (e ∷ xs) = (inserted e (in_order xs) (in_order_ascends xs)).ascending

in_order_same : (xs : List ModuleVersion) → HaveSame xs (in_order xs)
in_order_same [] x = ((λ h. h), (λ h. h))
in_order_same (e ∷ xs) x =
    let is = inserted e (in_order xs) (in_order_ascends xs) in
    let same = in_order_same xs x in (
      (λ h. is.kept x (elim (member_cases e x xs h) [ inl first ↦ inl first | inr later ↦ inr (same.0 later) ])),
      (λ h. elim (is.only x h) [
        | inl first ↦ rw⁻¹ first (member_head e xs)
        | inr there ↦ member_tail e x xs (same.1 there)
      ]),
    )

-- the vertices that the edges of a list lead to, in ascending order
abbrev pub ordered_ends : List Edge → List ModuleVersion
ordered_ends edges = in_order (map (λ (e : Edge). e.to) edges)

pub ends_ordered : (edges : List Edge) → AreEnds (ordered_ends edges) (among edges)
ends_ordered edges = ends_same (map (λ (e : Edge). e.to) edges) (ordered_ends edges) (among edges) (in_order_same _) (ends_of edges)

pub ends_selected : (main : List ℕ) (edges : List Edge) → AreSelected main (among edges) (greatest_of main (ordered_ends edges))
ends_selected main edges = are_selected main (ordered_ends edges) (in_order_ascends (map (λ (e : Edge). e.to) edges)) (among edges) (ends_ordered edges)

pub some_build_list : {R : Type 0} → SomeBuildList R
some_build_list main replaces edges =
    (main_entry ∷ map (entry_of replaces) (greatest_of main (ordered_ends edges)), listed replaces (ends_selected main edges))
